use Rattle.explain_batch.proofs.Stepping.{said_done, said_stop, stops_at}
use Rattle.explain_batch.proofs.steps.explain_steps.Goals as goal

pub returns-in-Ok : goal.returns-in-Ok
returns-in-Ok c =
    said_done c.args.files.now c.args.steps.now c.in-Ok.batched c.explain_done_batch.result c.in-Ok.ensures.done c.explain_done_batch.ensures

pub explain_stopped_batch-requires-clause-stops : goal.explain_stopped_batch-requires-clause-stops
explain_stopped_batch-requires-clause-stops c =
    stops_at c.args.files.now c.args.steps.now c.in-Err-At.step c.in-Err-At.refusal c.in-Err-At.field-0 c.in-Err-At.field-0-is
    c.in-Err-At.ensures.refused

pub returns-in-Err-At : goal.returns-in-Err-At
returns-in-Err-At c =
    said_stop c.args.files.now c.args.steps.now c.in-Err-At.step c.in-Err-At.refusal c.explain_stopped_batch.result c.explain_stopped_batch.ensures
