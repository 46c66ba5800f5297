use Rattle.rename_batch.proofs.Runs.{done_named, names_refusal, refused_step}
use Rattle.rename_batch.proofs.run.run_step.Goals as goal

pub returns-in-Ok-clause-done : goal.returns-in-Ok-clause-done
returns-in-Ok-clause-done c = done_named c.args.files.now c.args.step.now c.as_bytes.result.now c.in-Ok.done.0 c.as_bytes.ensures c.in-Ok.ensures.done

pub returns-in-Err-clause-refused : goal.returns-in-Err-clause-refused
returns-in-Err-clause-refused c =
    refused_step c.args.files.now c.args.step.now c.args.number c.as_bytes.result.now c.in-Err.refusal c.make_step_error.result c.as_bytes.ensures
    c.in-Err.ensures.refused c.make_step_error.ensures

pub returns-in-Err-clause-named : goal.returns-in-Err-clause-named
returns-in-Err-clause-named c = names_refusal c.args.number c.in-Err.refusal c.make_step_error.result c.make_step_error.ensures
