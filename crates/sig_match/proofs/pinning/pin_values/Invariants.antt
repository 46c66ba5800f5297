use Rattle.std.proofs.Common.{drop}
use Rattle.shape_core.specs.Shape.{entries_in}
use Rattle.sig_match.specs.Walk.{trace_of}
use Rattle.sig_match.proofs.Walks.{Turns}
use Rattle.sig_match.proofs.ValueWalks.{pins_at}
use Rattle.sig_match.proofs.pinning.pin_values.Given as goal

abbrev pub invariant-loop-at : goal.invariant-loop-at
invariant-loop-at l =
    Turns l.room (trace_of l.fn.found) (trace_of l.found) (pins_at (entries_in l.shape) l.positions)
    (pins_at (entries_in l.shape) (drop l.at-index l.positions))
