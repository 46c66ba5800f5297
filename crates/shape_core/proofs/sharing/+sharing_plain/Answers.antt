use Rattle.std.proofs.Common.{◌∙◌, ap}
use Rattle.shape_core.specs.Node.{entries_of}
use Rattle.shape_core.proofs.Telling.{shared_more}
use Rattle.shape_core.proofs.sharing.+sharing_plain.Goals as goal

pub share_entries-loop-entry-preserved : goal.share_entries-loop-entry-preserved
share_entries-loop-entry-preserved t c =
    ap entries_of c.in_ok-push.ensures.items
    ∙ shared_more c.loop-entry.shared.items c.args.list.now c.loop-entry.entry-index c.in_ok-share_entry.field-0 c.entry-item.result
    c.loop-entry-test.true c.entry-item.is c.loop-entry.invariant c.in_ok-share_entry.ensures
