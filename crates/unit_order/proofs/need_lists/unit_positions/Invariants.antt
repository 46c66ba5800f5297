use Rattle.std.proofs.Common.{map, take}
use Rattle.unit_order.specs.Needs.{ArePositions}
use Rattle.unit_order.proofs.need_lists.unit_positions.Given as goal

abbrev pub invariant-loop-at : goal.invariant-loop-at
invariant-loop-at l = ArePositions l.positions (take l.at (map (λ u. u.name) l.units))
