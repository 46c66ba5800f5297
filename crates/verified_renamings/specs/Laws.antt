-- What `verify` says of the files that `rename` leaves (own).
use Rattle.std.specs.Prelude.{Result, Ok}
use Rattle.rotor_base.specs.declared.refusal.Refusal.{Refusal}
use Rattle.rotor_base.specs.declared.report.Renamed.{Renamed}
use Rattle.rotor_base.specs.declared.target.Target.{Target}
use Rattle.rotor_base.specs.Files.{FileSet, IsProject}
use Rattle.shape_core.specs.Shape.{Name}
use Rattle.rename_files.specs.Answer.{Renames}
use Rattle.rename_verify.specs.declared.verdict.Verdict.{Verdict}
use Rattle.rename_verify.specs.Laws.{IsValidRespelling, IsYesAnswer}
use Rattle.rename_verify.specs.Verdict.{Verdicts}

-- Law: the files that an accepted renaming gives are a valid respelling of the old ones
abbrev pub RenamingsAreVerified : Type 0
RenamingsAreVerified =
    (files : FileSet) (target : Target) (new : Name) (done : Renamed) → IsProject files → Renames files target new (Ok done)
    → IsValidRespelling files done.files

-- Law: so each answer of `verify` to the old files and the new ones is yes
abbrev pub RenamingsSayYes : Type 0
RenamingsSayYes =
    (files : FileSet) (target : Target) (new : Name) (done : Renamed) (answer : Result Verdict Refusal) → IsProject files
    → Renames files target new (Ok done) → Verdicts files done.files answer → IsYesAnswer answer
