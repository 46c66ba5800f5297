-- The laws of verdicts (own).
use Rattle.std.specs.Prelude.{◌≡◌, ◌≢◌, ◌↔◌, List, Result, Ok, Err, Contains, map}
use Rattle.std.specs.Global.{Vec}
use Rattle.rotor_base.specs.declared.place.Place.{Place}
use Rattle.rotor_base.specs.declared.refusal.Refusal.{Refusal}
use Rattle.rotor_base.specs.Files.{FileSet, IsProject, names_of}
use Rattle.ml_trees.specs.Tree.{UnitTree}
use Rattle.shape_core.specs.Shape.{Name}
use Rattle.binding_model.specs.Renaming.{Renaming, Changes, IsValid, name_of}
use Rattle.project_reading.specs.Reads.{Reads}
use Rattle.capture_check.specs.Fault.{IsMet}
use Rattle.rename_files.specs.Answer.{Accepts}
use Rattle.rename_laws.specs.Laws.{KeepsRuns}
use Rattle.rename_respell.specs.Respelled.{AreRespelledBytes, mapped_words}
use Rattle.rename_verify.specs.Changed.{Changed}
use Rattle.rename_verify.specs.declared.verdict.Verdict.{Verdict}
use Rattle.rename_verify.specs.declared.verdict.Verdict.TheVariants.{Yes, No}
use Rattle.rename_verify.specs.Verdict.{AreChanges, Verdicts, reasons}

-- two verdicts say the same
abbrev pub AreSame : Verdict → Verdict → Type 0
AreSame (Yes one) (Yes other) = one.items ≡ other.items
AreSame (No one) (No other) = one ≡ other
AreSame one other = ⊥

-- two answers of `verify` say the same
abbrev pub AreSameAnswers : Result Verdict Refusal → Result Verdict Refusal → Type 0
AreSameAnswers (Ok one) (Ok other) = AreSame one other
AreSameAnswers (Err one) (Err other) = one ≡ other
AreSameAnswers one other = ⊥

-- Law: two projects have at most one verdict
abbrev pub VerdictsAreOne : Type 0
VerdictsAreOne = (old new : FileSet) (one other : Result Verdict Refusal) → Verdicts old new one → Verdicts old new other → AreSameAnswers one other

-- the new files are the old ones under a renaming: the names and the manifest are the same, and the bytes are respelled
pub record AreRespelledBy (old new : FileSet) (us : List UnitTree) (r : Renaming) : Type 0 where
  pub names : names_of old.entries ≡ names_of new.entries
  pub manifest : old.manifest ≡ new.manifest
  pub bytes : AreRespelledBytes (mapped_words us r) 0 old.entries (map (λ s. s.bytes) new.entries)

-- the renaming, which is a list, is a map: it gives each place at most one name
abbrev pub IsMap : Renaming → Type 0
IsMap r = (d : Place) (y z : Name) → Contains r (d, y) → Contains r (d, z) → y ≡ z

-- each entry of the renaming gives a binder another name
abbrev pub ChangesAll : List UnitTree → Renaming → Type 0
ChangesAll us r = (d : Place) (y : Name) → Contains r (d, y) → y ≢ name_of us d

-- a binder takes another name, and this is listed
pub record IsListedChange (list : List Changed) (d : Place) (y : Name) : Type 0 where
  pub change : Changed
  pub among : Contains list change
  pub place : change.0 ≡ d
  pub name : change.2 ≡ y

-- the new files are a valid respelling of the old ones, by a renaming whose changes are those of a list
pub record AreValidlyRespelled (old new : FileSet) (list : List Changed) : Type 0 where
  pub project : List UnitTree
  pub reads : Reads old project
  pub renaming : Renaming
  pub single : IsMap renaming
  pub valid : IsValid project renaming
  pub other : ChangesAll project renaming
  pub respelled : AreRespelledBy old new project renaming
  pub listed : (d : Place) (y : Name) → Changes project renaming d y ↔ IsListedChange list d y

-- Law: the verdict is yes only for a valid respelling, and the changes that it reports are those of the renaming
abbrev pub YesIsValid : Type 0
YesIsValid = (old new : FileSet) (list : Vec Changed) → IsProject old → IsProject new → Verdicts old new (Ok (Yes list))
    → AreValidlyRespelled old new list.items

-- Law: then every bounded run is the same
abbrev pub YesKeepsRuns : Type 0
YesKeepsRuns = (old new : FileSet) (list : Vec Changed) → IsProject old → IsProject new → Verdicts old new (Ok (Yes list)) → KeepsRuns old new

-- the new files are a valid respelling of the old ones, which `check` accepts, by a map that may give a binder its own
-- name
pub record IsValidRespelling (old new : FileSet) : Type 0 where
  pub project : List UnitTree
  pub accepts : Accepts old project
  pub renaming : Renaming
  pub single : IsMap renaming
  pub valid : IsValid project renaming
  pub respelled : AreRespelledBy old new project renaming

-- an answer of `verify` is yes
abbrev pub IsYesAnswer : Result Verdict Refusal → Type 0
IsYesAnswer (Ok (Yes list)) = Unit {0}
IsYesAnswer (Ok (No reason)) = ⊥
IsYesAnswer (Err why) = ⊥

-- Law: each answer to a valid respelling is yes
abbrev pub ValidSaysYes : Type 0
ValidSaysYes = (old new : FileSet) (answer : Result Verdict Refusal) → IsProject old → IsProject new → IsValidRespelling old new
    → Verdicts old new answer → IsYesAnswer answer

-- the verdict is yes: there is no reason against it, and this is what is changed
pub record IsYes (old new : FileSet) (us : List UnitTree) : Type 0 where
  pub none : IsMet (reasons us old new) → ⊥
  pub list : List Changed
  pub changes : AreChanges us new list

-- Law: the verdict on a valid respelling is yes
abbrev pub ValidIsYes : Type 0
ValidIsYes =
    (old new : FileSet) (us : List UnitTree) (r : Renaming) → IsProject old → IsProject new → Accepts old us → IsMap r → IsValid us r
    → AreRespelledBy old new us r
    → IsYes old new us
