use Rattle.std.proofs.Common.{length}
use Rattle.source_edits.specs.Ranges.{AreOrdered}
use Rattle.document_scene.proofs.ranges.are_ordered.Given as goal

-- all are in order, if what is left is
abbrev pub invariant-loop-rest : goal.invariant-loop-rest
invariant-loop-rest l = AreOrdered l.end l.rest → AreOrdered 0 l.spans

abbrev pub decreases-loop-rest : goal.decreases-loop-rest
decreases-loop-rest l = length l.rest
