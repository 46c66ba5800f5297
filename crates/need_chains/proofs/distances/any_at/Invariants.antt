use Rattle.std.proofs.Common.{◌≡◌, drop}
use Rattle.need_chains.specs.Distances.{any_at}
use Rattle.need_chains.proofs.distances.any_at.Given as goal

-- what is left decides
abbrev pub invariant-loop-at : goal.invariant-loop-at
invariant-loop-at l = any_at l.needs l.distances (drop l.at-index l.row) ≡ any_at l.needs l.distances l.row
