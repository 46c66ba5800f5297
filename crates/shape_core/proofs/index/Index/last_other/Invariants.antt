use Rattle.shape_core.proofs.Others.{Backwards}
use Rattle.shape_core.proofs.index.Index.last_other.Given as goal

abbrev pub invariant-loop-last : goal.invariant-loop-last
invariant-loop-last l = Backwards l.name l.set l.list l.left l.last

abbrev pub decreases-loop-last : goal.decreases-loop-last
decreases-loop-last l = l.left
