use Rattle.dependency_kernel.proofs.Paths.{IsTableOf}
use Rattle.dependency_kernel.proofs.neighbors.neighbors_of.Given as goal

-- the table has what the links so far join, and no more
abbrev pub invariant-loop-link : goal.invariant-loop-link
invariant-loop-link l = IsTableOf l.link-index l.links l.neighbors
