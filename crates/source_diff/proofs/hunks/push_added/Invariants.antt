use Rattle.std.proofs.Common.{◌≡◌, ◌++◌, map, take}
use Rattle.source_diff.specs.Pairs.{view_pair}
use Rattle.source_diff.specs.Hunks.{added, lines_text}
use Rattle.source_diff.proofs.hunks.push_added.Given as goal

-- the lines so far are added
abbrev pub invariant-loop-pair : goal.invariant-loop-pair
invariant-loop-pair l = l.text.items ≡ l.fn.text.items ++ lines_text (added (map view_pair (take l.pair-index l.pairs)))
