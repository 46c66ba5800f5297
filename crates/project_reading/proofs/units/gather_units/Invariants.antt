use Rattle.std.proofs.Common.{vec_len}
use Rattle.unit_order.specs.Positions.{views}
use Rattle.project_reading.proofs.Gathering.{IsGathered}
use Rattle.project_reading.proofs.units.gather_units.Given as goal

abbrev pub invariant-loop-tree : goal.invariant-loop-tree
invariant-loop-tree l = IsGathered l.sources l.fn.trees.items l.left.items (views l.units.items)

abbrev pub decreases-loop-tree : goal.decreases-loop-tree
decreases-loop-tree l = vec_len l.left
