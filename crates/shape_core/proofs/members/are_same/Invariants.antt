use Rattle.std.proofs.Common.{◌≡◌, length, take}
use Rattle.shape_core.proofs.members.are_same.Given as goal

abbrev pub invariant-loop-at : goal.invariant-loop-at
invariant-loop-at l = record {
  same : take l.at l.some ≡ take l.at l.others;
  long : length l.some ≡ length l.others;
}
