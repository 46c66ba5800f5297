use Rattle.std.proofs.Common.{All, take}
use Rattle.unit_order.specs.Positions.{views}
use Rattle.unit_order.specs.Order.{LiesOnCycle}
use Rattle.unit_order.proofs.cycle.first_on_cycle.Given as goal

abbrev pub invariant-loop-at : goal.invariant-loop-at
invariant-loop-at l = All (λ u. LiesOnCycle (views l.units) u → ⊥) (take l.at (views l.units))
