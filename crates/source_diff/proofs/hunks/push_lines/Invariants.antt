use Rattle.std.proofs.Common.{◌≡◌, ◌++◌, ◌≤◌, [], drop, map}
use Rattle.std.specs.Prelude.{slice_range}
use Rattle.source_diff.specs.Pairs.{view_pair}
use Rattle.source_diff.specs.Hunks.{added, marked, lines_text}
use Rattle.source_diff.proofs.hunks.push_lines.Given as goal

-- the text so far and that of the lines that are left, with those that wait, is the whole
abbrev pub invariant-loop-at : goal.invariant-loop-at
invariant-loop-at l =
    (l.from ≤ l.at)
    × (l.text.items ++ lines_text (marked (added (slice_range (map view_pair l.pairs) l.from l.at)) (drop l.at (map view_pair l.pairs)))
    ≡ l.fn.text.items ++ lines_text (marked [] (map view_pair l.pairs)))
