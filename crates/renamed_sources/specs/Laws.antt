-- The laws of renamed sources (own).
use Rattle.std.specs.Prelude.{◌≡◌, ◌⊎◌, ℕ, List, Option, Some, None, false, Contains, IsTrue, slice_get}
use Rattle.rotor_base.specs.declared.looks.Watch.{Watch}
use Rattle.rotor_base.specs.declared.place.Place.{Place}
use Rattle.rotor_base.specs.declared.source.SourceFile.{SourceFile}
use Rattle.rotor_base.specs.Files.{FileSet, IsProject, are_over, load_refusal, names_of}
use Rattle.rotor_base.specs.Name.{is_value_name}
use Rattle.ml_lexer.specs.Lexed.{Lexeme}
use Rattle.value_sites.specs.Places.{Site}
use Rattle.ml_syntax.specs.RespelledSource.{AreRespelled}
use Rattle.ml_trees.specs.Tree.{UnitTree}
use Rattle.shape_core.specs.Respell.{Words}
use Rattle.binding_model.specs.Facts.{facts}
use Rattle.binding_model.specs.Renaming.{at_place, in_file, places}
use Rattle.project_reading.specs.Reads.{Reads}
use Rattle.project_reading.specs.Sources.{AreCut}
use Rattle.rename_model.specs.Bytes.{position_with}
use Rattle.rename_model.specs.Foot.{hits}
use Rattle.rename_model.specs.Renaming.{renamed_words}
use Rattle.rename_model.specs.Report.{hit_files}

-- Law: respelled sources keep their names
abbrev pub RenamedKeepNames : Type 0
RenamedKeepNames = (w : Words) (n : ℕ) (olds news : List SourceFile) → AreRespelled (in_file w) n olds news → names_of news ≡ names_of olds

-- Law: sources that are cut can be respelled
abbrev pub SourcesCanBeRespelled : Type 0
SourcesCanBeRespelled =
    (w : Words) (n : ℕ) (olds : List SourceFile) (lists : List (List Lexeme)) → AreCut olds lists
    → (news : List SourceFile) × AreRespelled (in_file w) n olds news

-- Law: sources that are taken are at no position over the limits on bytes
abbrev pub NothingIsOver : Type 0
NothingIsOver = (olds : List SourceFile) (m : Option (List ℕ)) → load_refusal olds m ≡ None → position_with are_over olds ≡ None

-- Law: sources of the same names that are not over the limits are taken too
abbrev pub SmallIsTaken : Type 0
SmallIsTaken =
    (olds news : List SourceFile) (m : Option (List ℕ)) → names_of news ≡ names_of olds → position_with are_over news ≡ None
    → load_refusal olds m ≡ None → load_refusal news m ≡ None

-- Law: a renamed source is the old one, or it has a place that takes the new word
abbrev pub SourcesWithoutHitsStay : Type 0
SourcesWithoutHitsStay =
    (us : List UnitTree) (w : Watch) (olds news : List SourceFile) → AreRespelled (in_file (renamed_words us w)) 0 olds news
    → (k : ℕ) → (slice_get olds k ≡ slice_get news k) ⊎ Contains (hit_files (hits (facts us).refs w.foot) 0 olds) k

-- Law: a place that is no operator, and no label or field too, has a value name
abbrev pub NamesAreValueNames : Type 0
NamesAreValueNames =
    (files : FileSet) (us : List UnitTree) (d : Place) (x : Site) → IsProject files → Reads files us → at_place (places us) d ≡ Some x
    → x.operator ≡ false → x.pun ≡ false → IsTrue (is_value_name x.name)
