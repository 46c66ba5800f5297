use Rattle.std.proofs.Common.{◌≡◌, map, take}
use Rattle.rename_batch.specs.Batch.{undo_of}
use Rattle.rename_batch.proofs.run.undos.Given as goal

-- the steps back from the changes so far
abbrev pub invariant-loop-change : goal.invariant-loop-change
invariant-loop-change l = l.undos.items ≡ map undo_of (take l.change-index l.changes)
