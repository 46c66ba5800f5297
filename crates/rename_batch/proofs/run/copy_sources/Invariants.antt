use Rattle.std.proofs.Common.{◌≡◌, take}
use Rattle.rename_batch.proofs.run.copy_sources.Given as goal

-- the sources so far are copied
abbrev pub invariant-loop-source : goal.invariant-loop-source
invariant-loop-source l = l.copies.items ≡ take l.source-index l.sources
