use Rattle.std.proofs.Common.{◌∙◌, ap, sym, get_or}
use Rattle.shape_core.specs.Shape as pure
use Rattle.shape_core.specs.View.{found_shape}
use Rattle.shape_core.proofs.Views.{inside_more}
use Rattle.shape_core.proofs.shape.step_inside.Goals as goal

pub loop-name-preserved : goal.loop-name-preserved
loop-name-preserved c =
    c.step_from-at.ensures
    ∙ ap (λ x. pure.step_from (found_shape c.loop-name.at) x) (c.as_bytes.ensures ∙ c.name-item.is)
    ∙ ap (λ s. pure.step_from s (get_or c.args.path.now c.loop-name.name-index c.name-item.result)) c.loop-name.invariant
    ∙ sym (inside_more (found_shape c.args.start) c.args.path.now c.loop-name.name-index c.name-item.result c.loop-name-test.true)
