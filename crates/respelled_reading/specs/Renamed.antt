-- Renamed files, and the project that they are read as (the OCaml manual, "Names").
use Rattle.std.specs.Prelude.{◌≡◌, List, Some, Contains, IsTrue}
use Rattle.rotor_base.specs.Files.{FileSet, IsProject}
use Rattle.rotor_base.specs.Name.{is_value_name}
use Rattle.rotor_base.specs.declared.place.Place.{Place}
use Rattle.rotor_base.specs.declared.place.Goal.TheVariants.{Decl}
use Rattle.rotor_base.specs.declared.place.Ref.{Ref}
use Rattle.rotor_base.specs.declared.looks.Watch.{Watch}
use Rattle.ml_lexer.specs.Lexed.{Lexeme}
use Rattle.value_sites.specs.Places.{Site}
use Rattle.ml_trees.specs.Tree.{UnitTree}
use Rattle.shape_core.specs.Shape.{Name}
use Rattle.shape_core.specs.Respell.{Words}
use Rattle.binding_model.specs.Facts.{facts}
use Rattle.binding_model.specs.Local.{IsWatched}
use Rattle.binding_model.specs.Renaming.{renaming}
use Rattle.binding_model.specs.Renaming.{Renaming, places, at_place, in_file, words_of, respell, IsFixedSite}
use Rattle.project_reading.specs.Reads.{Reads}
use Rattle.ml_syntax.specs.RespelledSource.{AreRespelled}
use Rattle.project_reading.specs.Respelled.{respelled_lists}
use Rattle.project_reading.specs.Sources.{AreCut}

-- the new words of a project's places
abbrev pub renamed_words : List UnitTree → Renaming → Words
renamed_words us r = words_of r (facts us).refs

-- The renaming gives value names, to places that are no operators and no puns. No use of one of them is an operator or
-- a pun.
pub record GivesValueNames (us : List UnitTree) (r : Renaming) : Type 0 where
  pub word : (d : Place) (y : Name) → at_place r d ≡ Some y → IsTrue (is_value_name y)
  pub place : (d : Place) (y : Name) → at_place r d ≡ Some y → (x : Site) × (at_place (places us) d ≡ Some x)
  pub free : (d : Place) (y : Name) → at_place r d ≡ Some y → IsFixedSite (at_place (places us) d) → ⊥
  pub uses : (d : Place) (y : Name) (u : Ref) → at_place r d ≡ Some y → Contains (facts us).refs u → u.goal ≡ Decl d
      → IsFixedSite (at_place (places us) u.at) → ⊥

-- these files are those, renamed: their sources have the new words, and their manifest is the same
pub record AreRenamed (us : List UnitTree) (r : Renaming) (old new : FileSet) : Type 0 where
  pub sources : AreRespelled (in_file (renamed_words us r)) 0 old.entries new.entries
  pub manifest : new.manifest ≡ old.manifest

-- Renamed files are read as the respelled project
abbrev pub RenamedFilesAreRead : Type 0
RenamedFilesAreRead =
    (us : List UnitTree) (r : Renaming) (old new : FileSet) → IsProject old → Reads old us → GivesValueNames us r
    → AreRenamed us r old new → Reads new (respell us r)

-- Renamed files are cut into the respelled lexemes
abbrev pub RenamedFilesAreCut : Type 0
RenamedFilesAreCut =
    (us : List UnitTree) (r : Renaming) (old new : FileSet) (lists : List (List Lexeme)) → IsProject old → Reads old us → GivesValueNames us r
    → AreRenamed us r old new → AreCut old.entries lists → AreCut new.entries (respelled_lists (in_file (renamed_words us r)) 0 lists)

-- the renaming of a watch gives value names
abbrev pub WatchesGiveValueNames : Type 0
WatchesGiveValueNames =
    (us : List UnitTree) (w : Watch) → IsWatched us w → IsTrue (is_value_name w.new)
    → ((d : Place) → Contains w.foot.decls d → (x : Site) × (at_place (places us) d ≡ Some x))
    → GivesValueNames us (renaming w)

-- Files that are renamed back are the old files, if the trees that are respelled back are the old trees
abbrev pub RenamedBackAreTheFiles : Type 0
RenamedBackAreTheFiles =
    (us : List UnitTree) (r back : Renaming) (old new undone : FileSet) → IsProject old → Reads old us → GivesValueNames us r
    → AreRenamed us r old new → AreRenamed (respell us r) back new undone → respell (respell us r) back ≡ us → undone ≡ old
