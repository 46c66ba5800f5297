use Rattle.std.proofs.Common.{unwrap_or}
use Rattle.rename_batch.proofs.Runs.{passed_on, step_done, step_failed}
use Rattle.rename_batch.proofs.run.run_steps.Goals as goal

pub returns-in_err-done-clause-refused : goal.returns-in_err-done-clause-refused
returns-in_err-done-clause-refused c =
    passed_on c.from_residual.result c.in_err-done.field-0.0 _ c.from_residual.ensures.1
    (step_failed c.args.files.now c.args.steps.now c.loop-at.at c.index-steps-at.result (unwrap_or c.loop-at.last c.args.files.now)
    c.find_latest.result.now c.loop-at.changes c.in_err-done.field-0.0
    c.loop-at-test.true c.index-steps-at.is c.find_latest.ensures c.loop-at.invariant.run c.in_err-done.ensures.refused)

pub loop-at-preserved : goal.loop-at-preserved
loop-at-preserved c = record {
  run =
      step_done c.args.files.now c.args.steps.now c.loop-at.at c.index-steps-at.result (unwrap_or c.loop-at.last c.args.files.now)
      c.find_latest.result.now c.loop-at.changes c.push.new.self c.in_ok-done.done
      c.loop-at-test.true c.index-steps-at.is c.find_latest.ensures c.loop-at.invariant.run c.in_ok-done.ensures.done c.in_ok-push.ensures.ok;
  known = c.in_ok-done.ensures.known;
}
