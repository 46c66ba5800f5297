-- The unit is in the lists of those that it needs so far.
use Rattle.std.proofs.Common.{◌≡◌, ◌+◌, ℕ, cond, count_by, length, map, nat_eq, take}
use Rattle.unit_order.specs.Needs.{times}
use Rattle.unit_order.proofs.need_lists.add_user.Given as goal

abbrev pub invariant-loop-needed : goal.invariant-loop-needed
invariant-loop-needed l = record {
  size : length l.users ≡ length l.fn.users;
  each : (i j : ℕ) → times (map (λ list. list.items) l.users) j i ≡ times (map (λ list. list.items) l.fn.users) j i + cond (nat_eq i l.user)
      (count_by (nat_eq j) (take l.needed-index l.needs)) 0;
}
