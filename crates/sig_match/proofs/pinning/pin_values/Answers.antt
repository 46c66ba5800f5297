use Rattle.std.proofs.Common.{ap, ◌∙◌}
use Rattle.shape_core.specs.Shape.{entries_in}
use Rattle.sig_match.specs.Walk.{trace_of}
use Rattle.sig_match.proofs.Walks.{left, stops_same, goes_same, loop_stops, loop_turns, loop_ends}
use Rattle.sig_match.proofs.ValueWalks.{pins_at, pins_all, pins_rest, pins_over}
use Rattle.sig_match.proofs.pinning.pin_values.Goals as goal

pub returns-in_err-meet : goal.returns-in_err-meet
returns-in_err-meet c =
    let es = entries_in c.args.shape.now in
    let ats = c.value_positions-positions.result.now in
    left c.from_residual.result _ c.args.room _ _ _ c.from_residual.ensures.0 c.from_residual.ensures.1
    (stops_same _ c.args.room (trace_of c.args.found.now)
    (trace_of c.meet.new.found) _ _ (ap (pins_at es) c.value_positions-positions.ensures ∙ pins_all es)
    (loop_stops _ c.args.room (trace_of c.args.found.now) (trace_of c.loop-at.found) (trace_of c.meet.new.found)
    (pins_at es ats) _ _ _ c.loop-at.invariant
    (pins_rest es ats c.loop-at.at-index 0 c.loop-at-test.true) c.in_err-meet.ensures))

pub loop-at-preserved : goal.loop-at-preserved
loop-at-preserved c =
    let es = entries_in c.args.shape.now in
    let ats = c.value_positions-positions.result.now in
    loop_turns c.args.room (trace_of c.args.found.now) (trace_of c.loop-at.found) (trace_of c.meet.new.found)
    (pins_at es ats) _ _ _ c.loop-at.invariant
    (pins_rest es ats c.loop-at.at-index 0 c.loop-at-test.true) c.in_ok-meet.ensures

pub returns : goal.returns
returns c =
    let es = entries_in c.args.shape.now in
    let ats = c.value_positions-positions.result.now in
    goes_same c.args.room (trace_of c.args.found.now)
    (trace_of c.loop-at.found) _ _ (ap (pins_at es) c.value_positions-positions.ensures ∙ pins_all es)
    (loop_ends c.args.room (trace_of c.args.found.now) (trace_of c.loop-at.found) (pins_at es ats) _ c.loop-at.invariant
    (pins_over es ats c.loop-at.at-index c.loop-at-test.false))
