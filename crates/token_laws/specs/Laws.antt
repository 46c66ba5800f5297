-- The laws of tokens (own).
use Rattle.std.specs.Prelude.{◌≡◌, ℕ, List, Result, Ok, Err}
use Rattle.rotor_base.specs.Files.{FileSet, IsProject}
use Rattle.rotor_base.specs.declared.refusal.Refusal.{Refusal}
use Rattle.rotor_base.specs.declared.refusal.Refusal.TheVariants.{Grown}
use Rattle.rotor_base.specs.declared.report.Counts.{Counts}
use Rattle.rotor_base.specs.declared.report.FootReport.{FootReport}
use Rattle.rotor_base.specs.declared.report.Renamed.{Renamed}
use Rattle.rotor_base.specs.declared.target.Target.{Target}
use Rattle.ml_trees.specs.Tree.{UnitTree}
use Rattle.project_reading.specs.Reads.{Reads}
use Rattle.rename_files.specs.Answer.{Checks, Shows, Renames}
use Rattle.shape_core.specs.Shape.{Name}
use Rattle.token_laws.specs.Tokens.{DifferInBlanks, DoTheSame, NameTheSame}

-- Law: the files are read as the same project
abbrev pub ReadingsAreTheSame : Type 0
ReadingsAreTheSame = (one other : FileSet) (us : List UnitTree) → DifferInBlanks one other → Reads one us → Reads other us

-- Law: `check` answers the same
abbrev pub ChecksAreTheSame : Type 0
ChecksAreTheSame = (one other : FileSet) (answer : Result Counts Refusal) → DifferInBlanks one other → Checks one answer → Checks other answer

-- Law: `footprint` answers the same
abbrev pub FootprintsAreTheSame : Type 0
FootprintsAreTheSame =
    (one other : FileSet) (target again : Target) (answer : Result FootReport Refusal) → DifferInBlanks one other
    → NameTheSame one other target again → Shows one target answer → Shows other again answer

-- the answer is that a new source is over the limits on bytes
abbrev pub IsGrownAnswer : Result Renamed Refusal → Type 0
IsGrownAnswer answer = (file : ℕ) × (answer ≡ Err (Grown file))

-- two answers say the same
abbrev pub SayTheSame : Result Renamed Refusal → Result Renamed Refusal → Type 0
SayTheSame (Ok one) (Ok other) = DoTheSame one other
SayTheSame (Err one) (Err other) = one ≡ other
SayTheSame one other = ⊥

-- Law: the answers of `rename` are the same, unless one of them is Grown
abbrev pub RenamingsAreTheSame : Type 0
RenamingsAreTheSame =
    (one other : FileSet) (target again : Target) (new : Name) (answer another : Result Renamed Refusal) → IsProject one → IsProject other
    → DifferInBlanks one other → NameTheSame one other target again → Renames one target new answer → Renames other again new another
    → (IsGrownAnswer answer → ⊥) → (IsGrownAnswer another → ⊥) → SayTheSame answer another
