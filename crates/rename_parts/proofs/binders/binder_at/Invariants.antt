use Rattle.std.proofs.Common.{◌≡◌, drop, map}
use Rattle.ml_trees.specs.View.{view_unit}
use Rattle.binding_model.specs.Renaming.{places}
use Rattle.rename_parts.specs.Binders.{mark_at}
use Rattle.rename_parts.proofs.binders.binder_at.Given as goal

-- no unit so far has it
abbrev pub invariant-loop-unit : goal.invariant-loop-unit
invariant-loop-unit l = mark_at (places (map view_unit (drop l.unit-index l.unit-items))) l.place ≡ mark_at
    (places (map view_unit l.unit-items)) l.place
