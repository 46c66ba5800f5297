use Rattle.std.proofs.Common.{◌≡◌, take}
use Rattle.shape_core.specs.View.{entries}
use Rattle.shape_core.proofs.shape.+copying.Given as goal

abbrev pub invariant-copy_entries-loop-entry : goal.invariant-copy_entries-loop-entry
invariant-copy_entries-loop-entry l = entries l.copied.items ≡ entries (take l.entry-index l.list)
