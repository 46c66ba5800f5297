use Rattle.std.proofs.Common.{arith, length-take, refl}
use Rattle.std.proofs.lemmas.Option.{slice_get_read}
use Rattle.explain_batch.proofs.Stepping.{said_stopped, within}
use Rattle.explain_batch.proofs.stopped.explain_stopped_batch.Goals as goal

pub slice_bounds-done_before-end : goal.slice_bounds-done_before-end
slice_bounds-done_before-end c =
    let at = within c.args.files.now c.args.steps.now c.args.number c.args.why.now c.requires.stops in
    omega (arith, at.1, c.saturating_sub-front.ensures, length-take c.saturating_sub-front.result c.args.steps.now)

pub bounds-steps-front : goal.bounds-steps-front
bounds-steps-front c =
    let at = within c.args.files.now c.args.steps.now c.args.number c.args.why.now c.requires.stops in
    omega (arith, at.0, at.1, c.saturating_sub-front.ensures)

pub returns : goal.returns
returns c =
    let at = within c.args.files.now c.args.steps.now c.args.number c.args.why.now c.requires.stops in
    said_stopped c.args.files.now c.args.steps.now c.args.number c.saturating_sub-front.result c.args.why.now c.in_ok-before.before
    c.index-steps-front.result c.explain_step.result c.saturating_sub-front.ensures c.requires.stops c.in_ok-before.ensures
    (slice_get_read c.args.steps.now _ c.saturating_sub-front.result c.index-steps-front.result refl
    (omega (arith, at.0, at.1, c.saturating_sub-front.ensures)) c.index-steps-front.is) c.explain_step.ensures
