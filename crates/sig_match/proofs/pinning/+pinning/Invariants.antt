use Rattle.std.proofs.Common.{◌+◌, ◌*◌}
use Rattle.shape_core.specs.Shape.{depth, entries_in, entries_from}
use Rattle.shape_core.specs.Links as links
use Rattle.sig_match.specs.Walk.{trace_of, met}
use Rattle.sig_match.proofs.Walks.{Turns}
use Rattle.sig_match.proofs.Depths.{depth_of_part}
use Rattle.sig_match.proofs.pinning.+pinning.Given as goal

abbrev pub decreases-pin_shape : goal.decreases-pin_shape
decreases-pin_shape l = 4 * depth l.shape.now + 3

abbrev pub decreases-pin_entries : goal.decreases-pin_entries
decreases-pin_entries l = 4 * depth l.shape.now + 2

abbrev pub decreases-pin_entry : goal.decreases-pin_entry
decreases-pin_entry l = 4 * depth l.shape.now + 1

abbrev pub decreases-pin_option : goal.decreases-pin_option
decreases-pin_option l = depth_of_part l.part

abbrev pub invariant-pin_entries-loop-at : goal.invariant-pin_entries-loop-at
invariant-pin_entries-loop-at l =
    Turns l.room (trace_of l.fn.found) (trace_of l.found) (links.pin_entries met (entries_in l.shape))
    (links.pin_entries met (entries_from l.at (entries_in l.shape)))
