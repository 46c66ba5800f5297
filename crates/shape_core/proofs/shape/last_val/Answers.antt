use Rattle.std.proofs.Common.{◌∙◌, ap, sym, take}
use Rattle.shape_core.specs.Shape as pure
use Rattle.shape_core.specs.View.{view_then, entries}
use Rattle.shape_core.proofs.Views.{or_or, vals_more}
use Rattle.shape_core.proofs.shape.last_val.Goals as goal

pub loop-entry-preserved : goal.loop-entry-preserved
loop-entry-preserved c =
    c.or-last.ensures
    ∙ or_or c.val_named.result c.loop-entry.last
    ∙ ap (λ o. pure.or_else o c.loop-entry.last) c.val_named.ensures
    ∙ ap (λ o. pure.or_else (pure.last_of (pure.vals (view_then c.entry-item.result pure.none)) c.args.name.now) o) c.loop-entry.invariant
    ∙ ap (λ e. pure.or_else (pure.last_of (pure.vals (view_then e pure.none)) c.args.name.now)
    (pure.last_of (pure.vals (entries (take c.loop-entry.entry-index c.args.list.now))) c.args.name.now)) c.entry-item.is
    ∙ sym (vals_more c.args.list.now c.loop-entry.entry-index c.entry-item.result c.args.name.now c.loop-entry-test.true)
