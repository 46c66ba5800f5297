use Rattle.std.proofs.Common.{◌+◌, ◌*◌}
use Rattle.shape_core.specs.Shape.{depth, entries_in, entries_from}
use Rattle.shape_core.specs.Links as links
use Rattle.sig_match.specs.Walk.{trace_of, met}
use Rattle.sig_match.proofs.Walks.{Turns}
use Rattle.sig_match.proofs.Depths.{depth_of_both}
use Rattle.sig_match.proofs.matching.+matching.Given as goal

abbrev pub decreases-match_both : goal.decreases-match_both
decreases-match_both l = 4 * (depth l.src.now + depth l.tgt.now) + 3

abbrev pub decreases-match_entries : goal.decreases-match_entries
decreases-match_entries l = 4 * (depth l.src.now + depth l.tgt.now) + 2

abbrev pub decreases-match_entry : goal.decreases-match_entry
decreases-match_entry l = 4 * (depth l.src.now + depth l.tgt.now) + 1

abbrev pub decreases-match_ways : goal.decreases-match_ways
decreases-match_ways l = 4 * (depth l.src.now + depth l.tgt.now) + 4

abbrev pub decreases-match_options : goal.decreases-match_options
decreases-match_options l = depth_of_both l.src l.tgt

abbrev pub invariant-match_entries-loop-at : goal.invariant-match_entries-loop-at
invariant-match_entries-loop-at l =
    Turns l.room (trace_of l.fn.found) (trace_of l.found)
    (links.match_entries met (links.matched met) (entries_in l.src) (entries_in l.tgt))
    (links.match_entries met (links.matched met) (entries_in l.src) (entries_from l.at (entries_in l.tgt)))
