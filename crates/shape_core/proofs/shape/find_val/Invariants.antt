use Rattle.std.proofs.Common.{◌≤◌, take}
use Rattle.shape_core.specs.View.{entries, Sees}
use Rattle.shape_core.proofs.shape.find_val.Given as goal

abbrev pub invariant-loop-entry : goal.invariant-loop-entry
invariant-loop-entry l = Sees (entries (take l.entry-index l.list)) l.name l.seen × (l.seen.passed ≤ l.entry-index)
