use Rattle.std.proofs.Common.{◌≡◌, false, length, map, take}
use Rattle.unit_order.proofs.taking.start_waiting.Given as goal

abbrev pub invariant-loop-list : goal.invariant-loop-list
invariant-loop-list l = l.waiting.items ≡ map (λ list. record { missing = length list.items; taken = false }) (take l.list-index l.needs)
