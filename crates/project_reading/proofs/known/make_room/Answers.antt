use Rattle.std.proofs.Common.{subst, sym}
use Rattle.project_reading.proofs.Knowing.{NoTrees, one_more_none}
use Rattle.project_reading.proofs.known.make_room.Goals as goal

pub loop-preserved : goal.loop-preserved
loop-preserved c = subst NoTrees (sym c.in_ok-push.ensures.items) (one_more_none c.loop.trees.items c.loop.invariant)
