use Rattle.std.proofs.Common.{◌≡◌, map, take}
use Rattle.rename_verify.proofs.fixed.places_of.Given as goal

-- the places so far
abbrev pub invariant-loop-reference : goal.invariant-loop-reference
invariant-loop-reference l = l.list.items ≡ map (λ r. r.at) (take l.reference-index l.refs)
