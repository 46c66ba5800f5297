use Rattle.rename_parts.proofs.Filing.{Gathers}
use Rattle.rename_parts.proofs.members.files_of.Given as goal

-- with the places that are left, the set has all their files
abbrev pub invariant-loop-place : goal.invariant-loop-place
invariant-loop-place l = Gathers l.places l.place-index l.set
