use Rattle.shape_core.specs.Shape.{entries_in}
use Rattle.shape_core.proofs.Opening.{first_items}
use Rattle.shape_core.proofs.opened.OpenedEntries.list.Goals as goal

pub returns : goal.returns
returns c =
    let o = c.args.self.now in
    first_items o.len c.min.result c.entries-list.result.now (entries_in o.shape) c.entries-list.ensures c.min.ensures
