-- Answer: what `check`, `footprint` and `rename` answer over the files of a folder (own).
use Rattle.std.specs.Prelude.{◌≡◌, ◌⊎◌, List, Result, Ok, Err}
use Rattle.rotor_base.specs.declared.place.Place.{Place}
use Rattle.rotor_base.specs.declared.place.Foot.{Foot}
use Rattle.rotor_base.specs.declared.refusal.Refusal.{Refusal}
use Rattle.rotor_base.specs.declared.report.Counts.{Counts}
use Rattle.rotor_base.specs.declared.report.FootReport.{FootReport}
use Rattle.rotor_base.specs.declared.report.Renamed.{Renamed}
use Rattle.rotor_base.specs.declared.target.Target.{Target}
use Rattle.rotor_base.specs.Files.{FileSet}
use Rattle.ml_trees.specs.Tree.{UnitTree}
use Rattle.shape_core.specs.Shape.{Name}
use Rattle.capture_check.specs.Fault.{IsMet}
use Rattle.project_reading.specs.Reads.{Reads, Unread}
use Rattle.rename_model.specs.Target.{Aims}
use Rattle.rename_model.specs.Project.{refusals_of_project, counts_of}
use Rattle.rename_model.specs.Foot.{IsTheFoot}
use Rattle.rename_model.specs.Renaming.{HasNoTarget, refusals_of_binder, refusals_of_renaming}
use Rattle.rename_model.specs.Report.{shown_of, IsRenaming}

-- the files are read as this project, and none of the refusals of a project holds
pub record Accepts (files : FileSet) (us : List UnitTree) : Type 0 where
  pub reads : Reads files us
  pub none : IsMet (refusals_of_project us) → ⊥

-- the files are not read as a project; or they are, and this is the first of its refusals
abbrev pub Rejects : FileSet → Refusal → Type 0
Rejects files why = Unread files why ⊎ ((us : List UnitTree) × Reads files us × refusals_of_project us why)

-- `check`: the counts of the project, or the first refusal
abbrev pub Checks : FileSet → Result Counts Refusal → Type 0
Checks files (Ok counts) = (us : List UnitTree) × Accepts files us × (counts ≡ counts_of files.entries us)
Checks files (Err why) = Rejects files why

-- a target names a binder of the project, and this is its footprint
pub record Shown (files : FileSet) (target : Target) (shown : FootReport) : Type 0 where
  pub project : List UnitTree
  pub binder : Place
  pub foot : Foot
  pub accepts : Accepts files project
  pub aims : Aims files project target binder
  pub is_foot : IsTheFoot project binder foot
  pub report : shown ≡ shown_of project binder foot

-- `footprint`: the footprint of the target, or the first refusal
abbrev pub Shows : FileSet → Target → Result FootReport Refusal → Type 0
Shows files target (Ok shown) = Shown files target shown
Shows files target (Err why) = Rejects files why ⊎ ((us : List UnitTree) × Accepts files us × HasNoTarget files us target why)

-- a target names a binder of the project, none of the refusals of a renaming holds, and this is done
pub record Accepted (files : FileSet) (target : Target) (new : Name) (done : Renamed) : Type 0 where
  pub project : List UnitTree
  pub binder : Place
  pub foot : Foot
  pub accepts : Accepts files project
  pub aims : Aims files project target binder
  pub is_foot : IsTheFoot project binder foot
  pub none : IsMet (refusals_of_binder files.entries project binder foot new) → ⊥
  pub renaming : IsRenaming files project binder foot new done

-- `rename`: what is done, or the first refusal
abbrev pub Renames : FileSet → Target → Name → Result Renamed Refusal → Type 0
Renames files target new (Ok done) = Accepted files target new done
Renames files target new (Err why) = Rejects files why ⊎ ((us : List UnitTree) × Accepts files us × refusals_of_renaming files us target new why)
