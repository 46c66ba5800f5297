use Rattle.std.proofs.Common.{◌≡◌, drop, map}
use Rattle.ml_trees.specs.View.{view_unit}
use Rattle.shape_core.specs.Node.{entries_of}
use Rattle.binding_model.specs.Scopes.{after_units}
use Rattle.binding_model.specs.Taken.{taken, Going}
use Rattle.binding_model.specs.Walk.{units_steps}
use Rattle.mod_shape.proofs.project.units.Given as goal

abbrev pub invariant-loop-tree : goal.invariant-loop-tree
invariant-loop-tree l =
    (taken (Going l.found) (units_steps (entries_of l.scope) (map view_unit (drop l.tree-index l.list))) ≡ taken (Going l.fn.found)
    (units_steps (entries_of l.fn.scope) (map view_unit l.list)))
    × (after_units (entries_of l.scope) (map view_unit (drop l.tree-index l.list)) ≡ after_units (entries_of l.fn.scope) (map view_unit l.list))
