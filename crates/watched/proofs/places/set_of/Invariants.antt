use Rattle.watched.proofs.Sets.{Gathers}
use Rattle.watched.proofs.places.set_of.Given as goal

-- with the members that are left, the set has them all
abbrev pub invariant-loop-place : goal.invariant-loop-place
invariant-loop-place l = Gathers l.places l.place-index l.set
