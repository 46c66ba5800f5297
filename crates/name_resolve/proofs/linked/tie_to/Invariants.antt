use Rattle.std.proofs.Common.{◌≡◌, drop}
use Rattle.shape_core.specs.Shape.{entries_in}
use Rattle.shape_core.specs.Node.{entries_of}
use Rattle.name_resolve.specs.Recorded.{tied_to}
use Rattle.name_resolve.proofs.linked.tie_to.Given as goal

abbrev pub invariant-loop-value : goal.invariant-loop-value
invariant-loop-value l = tied_to l.found (entries_in l.source) (entries_of (drop l.value-index l.values)) ≡ tied_to l.fn.found (entries_in l.source)
    (entries_of l.values)
