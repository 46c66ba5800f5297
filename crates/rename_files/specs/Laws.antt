-- Law: each answer is one (own).
use Rattle.std.specs.Prelude.{◌≡◌, Result}
use Rattle.rotor_base.specs.declared.refusal.Refusal.{Refusal}
use Rattle.rotor_base.specs.declared.report.Counts.{Counts}
use Rattle.rotor_base.specs.declared.report.FootReport.{FootReport}
use Rattle.rotor_base.specs.declared.report.Renamed.{Renamed}
use Rattle.rotor_base.specs.declared.target.Target.{Target}
use Rattle.rotor_base.specs.Files.{FileSet}
use Rattle.shape_core.specs.Shape.{Name}
use Rattle.rename_files.specs.Answer.{Checks, Shows, Renames}

abbrev pub OneCheck : Type 0
OneCheck = (files : FileSet) (a b : Result Counts Refusal) → Checks files a → Checks files b → a ≡ b

abbrev pub OneFootprint : Type 0
OneFootprint = (files : FileSet) (target : Target) (a b : Result FootReport Refusal) → Shows files target a → Shows files target b → a ≡ b

abbrev pub OneRenaming : Type 0
OneRenaming = (files : FileSet) (target : Target) (new : Name) (a b : Result Renamed Refusal) → Renames files target new a
    → Renames files target new b → a ≡ b
