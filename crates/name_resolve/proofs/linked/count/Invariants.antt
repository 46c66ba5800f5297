use Rattle.std.proofs.Common.{◌≡◌, ◌≤◌, ◌+◌, drop, length}
use Rattle.shape_core.specs.Shape.{vals}
use Rattle.shape_core.specs.Node.{entries_of}
use Rattle.name_resolve.proofs.linked.count.Given as goal

abbrev pub invariant-loop-value : goal.invariant-loop-value
invariant-loop-value l = (l.number + length (vals (entries_of (drop l.value-index l.values))) ≡ length (vals (entries_of l.values)))
    × (l.number ≤ l.value-index)
