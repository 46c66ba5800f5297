use Rattle.std.proofs.Common.{◌≡◌, ◌++◌, drop}
use Rattle.rename_batch.specs.Batch.{changed_from}
use Rattle.rename_batch.proofs.run.changed_sources.Given as goal

-- the numbers so far, and those of the rest
abbrev pub invariant-loop-at : goal.invariant-loop-at
invariant-loop-at l = l.changed ++ changed_from l.at (drop l.at l.olds) (drop l.at l.news) ≡ changed_from 0 l.olds l.news
