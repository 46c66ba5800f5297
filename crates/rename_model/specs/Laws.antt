-- Law: each ladder gives at most one refusal, and a target has one goal (own).
use Rattle.std.specs.Prelude.{List}
use Rattle.rotor_base.specs.declared.target.Target.{Target}
use Rattle.rotor_base.specs.Files.{FileSet}
use Rattle.ml_trees.specs.Tree.{UnitTree}
use Rattle.shape_core.specs.Shape.{Name}
use Rattle.rename_model.specs.Ladder.{GivesOne}
use Rattle.rename_model.specs.Target.{Aims}
use Rattle.rename_model.specs.Project.{refusals_of_project}
use Rattle.rename_model.specs.Renaming.{refusals_of_renaming}

abbrev pub ProjectsAreRefusedOnce : Type 0
ProjectsAreRefusedOnce = (us : List UnitTree) → GivesOne (refusals_of_project us)

abbrev pub TargetsHaveOneGoal : Type 0
TargetsHaveOneGoal = (files : FileSet) (us : List UnitTree) (target : Target) → GivesOne (Aims files us target)

abbrev pub RenamingsAreRefusedOnce : Type 0
RenamingsAreRefusedOnce = (files : FileSet) (us : List UnitTree) (target : Target) (new : Name) → GivesOne (refusals_of_renaming files us target new)
