use Rattle.std.proofs.Common.{◌≡◌, ◌+◌, length, take, reverse}
use Rattle.parse_base.specs.Nesting.{down_to}
use Rattle.parse_base.specs.Stops.{test_of}
use Rattle.parse_base.proofs.depth.count_kept.Given as goal

abbrev pub invariant-loop-turn : goal.invariant-loop-turn
invariant-loop-turn l = record {
  left : down_to (test_of l.stop) (reverse (take l.kept l.marks)) ≡ down_to (test_of l.stop) (reverse l.marks);
  counted : l.kept + l._turn ≡ length l.marks;
}
