use Rattle.std.proofs.Common.{drop, map}
use Rattle.ml_trees.specs.View.{view_unit, view_project}
use Rattle.value_places.proofs.Units.{Leaves}
use Rattle.value_places.proofs.placed.file_project.Given as goal

-- with the units that are left, the places are those of all of them
abbrev pub invariant-loop-unit : goal.invariant-loop-unit
invariant-loop-unit l = Leaves (view_project l.project) (map view_unit (drop l.unit-index l.unit-items)) l.filed.files.items l.filed.binders.items
