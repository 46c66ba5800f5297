use Rattle.std.proofs.Common.{◌≡◌, take}
use Rattle.shape_core.specs.Shape as pure
use Rattle.shape_core.specs.View.{entries}
use Rattle.shape_core.proofs.shape.+weighing.Given as goal

abbrev pub invariant-weights-loop-entry : goal.invariant-weights-loop-entry
invariant-weights-loop-entry l = l.sum ≡ pure.capped (pure.weights (entries (take l.entry-index l.list)))
