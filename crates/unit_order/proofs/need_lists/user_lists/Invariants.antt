-- The lists of the units so far are turned round.
use Rattle.std.proofs.Common.{◌≡◌, [], ℕ, length, map, take, replicate}
use Rattle.unit_order.specs.Needs.{times}
use Rattle.unit_order.proofs.need_lists.user_lists.Given as goal

abbrev pub invariant-loop-unit : goal.invariant-loop-unit
invariant-loop-unit l = map (λ list. list.items) l.users.items ≡ replicate l._unit []

abbrev pub invariant-loop-user : goal.invariant-loop-user
invariant-loop-user l = record {
  size : length l.users.items ≡ length l.needs;
  turned : (i j : ℕ) → times (map (λ list. list.items) l.users.items) j i ≡ times (take l.user (map (λ list. list.items) l.needs)) i j;
}
