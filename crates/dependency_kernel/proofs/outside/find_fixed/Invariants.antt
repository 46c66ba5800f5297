use Rattle.dependency_kernel.proofs.Fixed.{IsFixedSet}
use Rattle.dependency_kernel.proofs.outside.find_fixed.Given as goal

-- the set has what the links so far fix, and no more
abbrev pub invariant-loop-link : goal.invariant-loop-link
invariant-loop-link l = IsFixedSet l.link-index l.links l.fixed
