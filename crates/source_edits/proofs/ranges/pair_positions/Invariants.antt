use Rattle.std.proofs.Common.{◌≡◌, ◌++◌, length}
use Rattle.source_edits.specs.Ranges.{paired}
use Rattle.source_edits.proofs.ranges.pair_positions.Given as goal

abbrev pub decreases-loop-rest : goal.decreases-loop-rest
decreases-loop-rest l = length l.rest

abbrev pub invariant-loop-rest : goal.invariant-loop-rest
invariant-loop-rest l = l.ranges.items ++ paired l.rest ≡ paired l.positions
