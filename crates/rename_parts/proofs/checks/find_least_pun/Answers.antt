use Rattle.rename_parts.proofs.Hitting.{pun_step, pun_all}
use Rattle.rename_parts.proofs.checks.find_least_pun.Goals as goal

pub loop-mark-preserved : goal.loop-mark-preserved
loop-mark-preserved c = pun_step c.loop-mark.mark-index c.args.marks.now _ c.loop-mark.least c.take_pun-least.result c.loop-mark-test.true
    c.take_pun-least.ensures c.loop-mark.invariant

pub returns : goal.returns
returns c = pun_all c.loop-mark.mark-index c.args.marks.now c.loop-mark.least c.loop-mark.auto.mark-index-end c.loop-mark-test.false
    c.loop-mark.invariant
