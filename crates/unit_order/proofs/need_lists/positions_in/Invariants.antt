use Rattle.std.proofs.Common.{◌≡◌, ◌++◌, drop}
use Rattle.unit_order.specs.Needs.{positions_from}
use Rattle.unit_order.proofs.need_lists.positions_in.Given as goal

abbrev pub invariant-loop-at : goal.invariant-loop-at
invariant-loop-at l = l.list.items ++ positions_from l.at (drop l.at l.row) ≡ positions_from 0 l.row
