-- What has an answer (own).
use Rattle.std.specs.Prelude.{Result}
use Rattle.rotor_base.specs.declared.refusal.Refusal.{Refusal}
use Rattle.rotor_base.specs.declared.report.Counts.{Counts}
use Rattle.rotor_base.specs.declared.report.FootReport.{FootReport}
use Rattle.rotor_base.specs.declared.report.Renamed.{Renamed}
use Rattle.rotor_base.specs.declared.target.Target.{Target}
use Rattle.rotor_base.specs.Files.{FileSet}
use Rattle.shape_core.specs.Shape.{Name}
use Rattle.rename_files.specs.Answer.{Checks, Renames, Shows}

-- Law: there is an answer of `check`
abbrev pub ChecksAreAnswered : Type 0
ChecksAreAnswered = (files : FileSet) → (answer : Result Counts Refusal) × Checks files answer

-- Law: there is an answer of `footprint`
abbrev pub FootprintsAreAnswered : Type 0
FootprintsAreAnswered = (files : FileSet) (target : Target) → (answer : Result FootReport Refusal) × Shows files target answer

-- Law: there is an answer of `rename`
abbrev pub RenamingsAreAnswered : Type 0
RenamingsAreAnswered =
    (files : FileSet) (target : Target) (new : Name) → (answer : Result Renamed Refusal) × Renames files target new answer
