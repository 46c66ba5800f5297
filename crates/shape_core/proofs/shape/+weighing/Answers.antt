use Rattle.std.proofs.Common.{◌∙◌, ap, sym}
use Rattle.shape_core.specs.Shape as pure
use Rattle.shape_core.specs.View.{view_then}
use Rattle.shape_core.proofs.Weights.{plus_capped, weights_more}
use Rattle.shape_core.proofs.shape.+weighing.Goals as goal

pub weights-loop-entry-preserved : goal.weights-loop-entry-preserved
weights-loop-entry-preserved t c =
    c.add_capped-sum.ensures
    ∙ plus_capped _ _ _ _ c.loop-entry.invariant
    (c.weight_of_entry.ensures ∙ ap (λ e. pure.capped (pure.weights (view_then e pure.none))) c.entry-item.is)
    ∙ ap pure.capped (sym (weights_more c.args.list.now c.loop-entry.entry-index c.entry-item.result c.loop-entry-test.true))
