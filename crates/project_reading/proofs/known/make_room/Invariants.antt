use Rattle.project_reading.proofs.Knowing.{NoTrees}
use Rattle.project_reading.proofs.known.make_room.Given as goal

-- no tree so far
abbrev pub invariant-loop : goal.invariant-loop
invariant-loop l = NoTrees l.trees.items
