-- The users so far wait for one less, and no unit before the position can be taken.
use Rattle.std.proofs.Common.{◌≡◌, ◌<◌, ◌≤◌, ◌-◌, ◌||◌, ℕ, count_by, get_or, length, nat_eq, take}
use Rattle.unit_order.specs.Turns.{NoneFreeBefore}
use Rattle.unit_order.specs.declared.taking.Waiting.{Waiting}
use Rattle.unit_order.proofs.taking.take_unit.Given as goal

abbrev pub invariant-loop-user : goal.invariant-loop-user
invariant-loop-user l = record {
  size : length l.waiting ≡ length l.fn.waiting;
  each : (k : ℕ) (d : Waiting) → k < length l.fn.waiting
      → get_or l.waiting k d ≡ record {
        missing = (get_or l.fn.waiting k d).missing - count_by (nat_eq k) (take l.user-index l.users);
        taken = (get_or l.fn.waiting k d).taken || nat_eq k l.at;
      };
  inside : l.from ≤ length l.waiting;
  before : NoneFreeBefore l.from l.waiting;
}
