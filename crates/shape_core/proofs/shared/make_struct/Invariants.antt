use Rattle.std.proofs.Common.{◌≡◌, take}
use Rattle.shape_core.specs.Shape as pure
use Rattle.shape_core.specs.Node.{entries_of}
use Rattle.shape_core.specs.Contents.{HasContents}
use Rattle.shape_core.proofs.shared.make_struct.Given as goal

abbrev pub invariant-loop-entry : goal.invariant-loop-entry
invariant-loop-entry l =
    HasContents l.contents (take l.entry-index l.entry-items)
    × (l.weight ≡ pure.capped (pure.weights (entries_of (take l.entry-index l.entry-items))))
    × (l.levels ≡ pure.depths (entries_of (take l.entry-index l.entry-items)))
