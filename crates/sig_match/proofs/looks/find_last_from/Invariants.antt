use Rattle.std.proofs.Common.{◌≡◌, ◌+◌, ◌≤◌, None, drop, length}
use Rattle.shape_core.specs.Shape.{darks}
use Rattle.shape_core.specs.Looks as pure
use Rattle.shape_core.specs.Node.{entries_of}
use Rattle.sig_match.specs.Tests.{test_of}
use Rattle.sig_match.proofs.looks.find_last_from.Given as goal

-- from here on no value passes, and so many entries are Dark
abbrev pub invariant-loop-left : goal.invariant-loop-left
invariant-loop-left l = record {
  within : l.left ≤ length l.list;
  above : l.from ≤ l.left;
  none : pure.last_where (test_of l.test l.watch) (entries_of (drop l.left l.list)) ≡ None;
  count : l.darks ≡ length (darks (entries_of (drop l.left l.list)));
  small : l.darks + l.left ≤ length l.list;
}

abbrev pub decreases-loop-left : goal.decreases-loop-left
decreases-loop-left l = l.left
