use Rattle.std.proofs.Common.{◌≡◌, map, drop, Some}
use Rattle.project_reading.proofs.TakingOut.{TakesOut}
use Rattle.project_reading.proofs.order.units_at.Given as goal

abbrev pub invariant-loop-unit : goal.invariant-loop-unit
invariant-loop-unit l = l.left.items ≡ map Some l.yielded

abbrev pub invariant-loop-at : goal.invariant-loop-at
invariant-loop-at l = TakesOut l.fn.units.items l.positions (drop l.at-index l.positions) l.left.items l.list.items
