use Rattle.std.proofs.Common.{◌≡◌, ◌++◌, ◌+◌, length, map}
use Rattle.source_diff.specs.Pairs.{pairs_of, text_lines, view_pair}
use Rattle.source_diff.proofs.pairs.pairs_of.Given as goal

abbrev pub decreases-loop-cut : goal.decreases-loop-cut
decreases-loop-cut l = length l.old_rest + length l.new_rest

-- the pairs so far and those of what is left are all
abbrev pub invariant-loop-cut : goal.invariant-loop-cut
invariant-loop-cut l =
    map view_pair l.pairs.items ++ pairs_of (text_lines l.old_rest) (text_lines l.new_rest) ≡ pairs_of (text_lines l.old) (text_lines l.new)
