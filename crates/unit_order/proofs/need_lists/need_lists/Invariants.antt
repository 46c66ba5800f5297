use Rattle.std.proofs.Common.{◌≡◌, map, take}
use Rattle.ml_trees.specs.View.{view_unit}
use Rattle.unit_order.specs.Order.{needs_unit}
use Rattle.unit_order.specs.Needs.{positions_from}
use Rattle.unit_order.proofs.need_lists.need_lists.Given as goal

abbrev pub invariant-loop-unit : goal.invariant-loop-unit
invariant-loop-unit l = map (λ list. list.items) l.lists.items ≡ map (λ u. positions_from 0 (map (λ v. needs_unit (view_unit u) v.name) l.units))
    (take l.unit-index l.units)
