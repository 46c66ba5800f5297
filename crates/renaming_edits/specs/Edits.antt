-- The edits of a renaming (own).
use Rattle.std.specs.Prelude.{◌≡◌, ℕ, List, [], ◌∷◌, Some, All, Contains, map, slice_get}
use Rattle.std.specs.BTreeSet.{BTreeSet}
use Rattle.std.specs.Str.{IsUtf8}
use Rattle.rotor_base.specs.declared.place.Place.{Place}
use Rattle.rotor_base.specs.declared.place.Facts.{Facts}
use Rattle.rotor_base.specs.declared.report.Renamed.{Renamed}
use Rattle.rotor_base.specs.declared.source.SourceFile.{SourceFile}
use Rattle.rotor_base.specs.Files.{FileSet}
use Rattle.text_places.specs.declared.counting.Counting.{Counting}
use Rattle.ml_lexer.specs.Lexed.{Lexeme, Lexed}
use Rattle.ml_lexer.specs.Respelled.{respelled}
use Rattle.value_sites.specs.Sound.{IsSound}
use Rattle.ml_trees.specs.Tree.{UnitTree}
use Rattle.binding_model.specs.Facts.{facts as facts_of}
use Rattle.binding_model.specs.Renaming.{IsBinder}
use Rattle.rename_model.specs.Foot.{IsTheFoot}
use Rattle.rename_model.specs.Report.{IsRenaming}
use Rattle.rename_parts.specs.Hits.{hit_words}
use Rattle.source_edits.specs.Edited.{IsEdited}
use Rattle.renaming_edits.specs.declared.renaming.FileEdits.{FileEdits}
use Rattle.renaming_edits.specs.declared.error.EditsError.{EditsError}
use Rattle.renaming_edits.specs.declared.error.EditsError.TheVariants as error

-- a renaming was done over these files; the facts are those of their project
pub record IsDone (files : FileSet) (facts : Facts) (done : Renamed) : Type 0 where
  pub project : List UnitTree
  pub sound : IsSound project
  pub resolved : facts ≡ facts_of project
  pub binds : IsBinder project done.undo_at
  pub foot : IsTheFoot project done.undo_at done.foot
  pub renaming : IsRenaming files project done.undo_at done.foot done.new done

-- the edits of a source make its new bytes of its old ones
pub record EditsSource (counting : Counting) (olds news : List SourceFile) (e : FileEdits) : Type 0 where
  pub old : SourceFile
  pub new : SourceFile
  pub is_old : slice_get olds e.file ≡ Some old
  pub is_new : slice_get news e.file ≡ Some new
  pub edited : IsEdited counting old.bytes e.edits.items new.bytes

-- the edits of a renaming are those of each changed source, in order, and the other sources keep their bytes
pub record AreEdits (counting : Counting) (files : FileSet) (done : Renamed) (list : List FileEdits) : Type 0 where
  pub changed : map (λ e. e.file) list ≡ done.changed
  pub each : All (EditsSource counting files.entries done.files.entries) list
  pub others : (file : ℕ) (old new : SourceFile) → slice_get files.entries file ≡ Some old → slice_get done.files.entries file ≡ Some new
      → (Contains done.changed file → ⊥) → new.bytes ≡ old.bytes

-- ---- texts

-- the source of a number is a text in UTF-8
abbrev pub IsText : List SourceFile → ℕ → Type 0
IsText sources file = (source : SourceFile) → slice_get sources file ≡ Some source → IsUtf8 source.bytes

-- one of some sources is none
abbrev pub IsNoText : List SourceFile → List ℕ → ℕ → Type 0
IsNoText sources files file = Contains files file × ((source : SourceFile) × (slice_get sources file ≡ Some source) × (IsUtf8 source.bytes → ⊥))

-- why there are no edits; want of memory is free
abbrev pub IsRefused : List SourceFile → List ℕ → EditsError → Type 0
IsRefused sources files (error.NotText file) = IsNoText sources files file
IsRefused sources files error.Memory = Unit {0}

-- ---- source by source

-- the edits of a source give the words at the places of a set a new word
abbrev pub GivesWords : Counting → BTreeSet Place → List ℕ → List SourceFile → ℕ → FileEdits → Type 0
GivesWords counting set new sources file e =
    (e.file ≡ file)
    × ((source : SourceFile) (xs : List Lexeme) → slice_get sources file ≡ Some source → Lexed source.bytes xs
    → IsEdited counting source.bytes e.edits.items (respelled source.bytes xs (hit_words set file new 1 xs)))

-- the same of each number and the edits at its place in the list
abbrev pub AreListed : Counting → BTreeSet Place → List ℕ → List SourceFile → List ℕ → List FileEdits → Type 0
AreListed counting set new sources [] [] = Unit {0}
AreListed counting set new sources (file ∷ files) (e ∷ es) =
    GivesWords counting set new sources file e × AreListed counting set new sources files es
AreListed counting set new sources _ _ = ⊥
