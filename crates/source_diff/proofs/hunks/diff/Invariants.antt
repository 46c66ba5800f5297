use Rattle.std.proofs.Common.{◌-◌, ◌≤◌, length, map}
use Rattle.source_diff.specs.Pairs.{view_pair}
use Rattle.source_diff.proofs.Texts.{Completes}
use Rattle.source_diff.proofs.hunks.diff.Given as goal

abbrev pub decreases-loop-run : goal.decreases-loop-run
decreases-loop-run l = length l.pairs.items - l.at

-- with the hunks of the runs from here on, the text so far is the diff
abbrev pub invariant-loop-run : goal.invariant-loop-run
invariant-loop-run l = (l.at ≤ length l.pairs.items) × Completes (map view_pair l.pairs.items) l.name l.at l.text.items
