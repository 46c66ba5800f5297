use Rattle.std.proofs.Common.{arith, length}
use Rattle.shape_core.specs.Shape.{entries_in}
use Rattle.shape_core.proofs.Opening.{all_items}
use Rattle.shape_core.proofs.opened.OpenedEntries.all.Goals as goal

pub returns : goal.returns
returns c =
    let list = c.entries-len.result.now in
    all_items (length list) list (entries_in c.args.shape) c.entries-len.ensures (omega arith)
