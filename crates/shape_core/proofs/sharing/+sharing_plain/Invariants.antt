use Rattle.std.proofs.Common.{◌≡◌, take}
use Rattle.shape_core.specs.Node.{entries_of}
use Rattle.shape_core.specs.View.{entries}
use Rattle.shape_core.proofs.sharing.+sharing_plain.Given as goal

abbrev pub invariant-share_entries-loop-entry : goal.invariant-share_entries-loop-entry
invariant-share_entries-loop-entry l = entries_of l.shared.items ≡ entries (take l.entry-index l.list)
