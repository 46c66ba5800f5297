use Rattle.std.proofs.Common.{◌≡◌, ℕ, ◌<◌, ◌≤◌, not, map}
use Rattle.source_diff.specs.Pairs.{view_pair}
use Rattle.source_diff.specs.Runs.{is_shown}
use Rattle.source_diff.proofs.runs.first_line.Given as goal

-- none of the lines so far is as the one that is looked for
abbrev pub invariant-loop-line : goal.invariant-loop-line
invariant-loop-line l = (k : ℕ) → l.at ≤ k → k < l.line → is_shown (map view_pair l.pairs) k ≡ not l.shown
