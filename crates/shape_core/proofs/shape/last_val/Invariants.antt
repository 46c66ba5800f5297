use Rattle.std.proofs.Common.{◌≡◌, take}
use Rattle.shape_core.specs.Shape as pure
use Rattle.shape_core.specs.View.{entries}
use Rattle.shape_core.proofs.shape.last_val.Given as goal

abbrev pub invariant-loop-entry : goal.invariant-loop-entry
invariant-loop-entry l = l.last ≡ pure.last_of (pure.vals (entries (take l.entry-index l.list))) l.name
