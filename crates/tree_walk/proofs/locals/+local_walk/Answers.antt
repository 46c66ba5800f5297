use Rattle.ml_trees.specs.View.{locals}
use Rattle.tree_events.specs.Told.{locals_told}
use Rattle.tree_events.proofs.Tells.{told_no_local}
use Rattle.tree_walk.proofs.Loops.{goes_further, is_whole}
use Rattle.tree_walk.proofs.locals.+local_walk.Goals as goal

pub arguments-loop-part-preserved : goal.arguments-loop-part-preserved
arguments-loop-part-preserved g t c =
    let step = g.V.Visitor.step in
    goes_further (λ z ms. locals_told step z ms) locals c.args.list.now c.loop-part.part-index c.part-item.result _ _ _ c.loop-part-test.true
    c.part-item.is
    (λ xs. c.in_ok-argument.ensures (locals xs))
    c.loop-part.invariant

pub arguments-returns : goal.arguments-returns
arguments-returns g t c =
    let step = g.V.Visitor.step in
    is_whole (λ z ms. locals_told step z ms) locals c.args.list.now c.loop-part.part-index _ _ c.loop-part-test.false (told_no_local step _)
    c.loop-part.invariant
