use Rattle.std.proofs.Common.{◌∙◌, ap}
use Rattle.shape_core.specs.Shape as pure
use Rattle.shape_core.specs.View.{view_then, entries}
use Rattle.shape_core.proofs.Views.{entries_pushed}
use Rattle.shape_core.proofs.shape.+copying.Goals as goal

pub copy_entries-loop-entry-preserved : goal.copy_entries-loop-entry-preserved
copy_entries-loop-entry-preserved t c =
    ap entries c.in_ok-push.ensures.items
    ∙ entries_pushed c.loop-entry.copied.items c.args.list.now c.loop-entry.entry-index c.entry-item.result c.in_ok-copy_entry.field-0
    c.loop-entry-test.true c.loop-entry.invariant (c.in_ok-copy_entry.ensures ∙ ap (λ e. view_then e pure.none) c.entry-item.is)
