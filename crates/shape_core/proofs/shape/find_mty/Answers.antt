use Rattle.std.proofs.Common.{◌∙◌, ap, sym, take}
use Rattle.shape_core.specs.Shape as pure
use Rattle.shape_core.specs.View.{view_shape, view_then, entries, found_shape}
use Rattle.shape_core.proofs.Views.{found_or, mtys_more}
use Rattle.shape_core.proofs.shape.find_mty.Goals as goal

pub loop-entry-preserved : goal.loop-entry-preserved
loop-entry-preserved c =
    ap found_shape c.or-last.ensures
    ∙ found_or (λ b. view_shape b.now) c.mty_named.result c.loop-entry.last
    ∙ ap (λ o. pure.or_else o (found_shape c.loop-entry.last)) c.mty_named.ensures
    ∙ ap (λ o. pure.or_else (pure.last_of (pure.mtys (view_then c.entry-item.result pure.none)) c.args.name.now) o) c.loop-entry.invariant
    ∙ ap (λ e. pure.or_else (pure.last_of (pure.mtys (view_then e pure.none)) c.args.name.now)
    (pure.last_of (pure.mtys (entries (take c.loop-entry.entry-index c.args.list.now))) c.args.name.now)) c.entry-item.is
    ∙ sym (mtys_more c.args.list.now c.loop-entry.entry-index c.entry-item.result c.args.name.now c.loop-entry-test.true)
