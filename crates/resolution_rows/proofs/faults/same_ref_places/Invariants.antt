use Rattle.std.proofs.Common.{◌≡◌, drop, map}
use Rattle.rotor_base.specs.declared.place.Ref.{Ref}
use Rattle.resolution_rows.proofs.faults.same_ref_places.Given as goal

-- the lists have the same places exactly if what is left of them has
abbrev pub invariant-loop-reference : goal.invariant-loop-reference
invariant-loop-reference l =
    (map (λ (r : Ref). r.at) (drop l.reference-index l.old) ≡ map (λ (r : Ref). r.at) l.rest
    → map (λ (r : Ref). r.at) l.fn.old ≡ map (λ (r : Ref). r.at) l.fn.new)
    × (map (λ (r : Ref). r.at) l.fn.old ≡ map (λ (r : Ref). r.at) l.fn.new → map (λ (r : Ref). r.at) (drop l.reference-index l.old) ≡ map
    (λ (r : Ref). r.at) l.rest)
