use Rattle.explain.proofs.Dotting.{step_more}
use Rattle.explain.proofs.targets.dotted_words.Goals as goal

pub loop-at-preserved : goal.loop-at-preserved
loop-at-preserved c =
    step_more c.args.names.now c.loop-at.at c.index-names-at.result c.index-names-at.result c.loop-at.text.items c.push_step.new.text.items
    c.loop-at-test.true c.index-names-at.is c.loop-at.invariant c.in_ok-push_step.ensures
