use Rattle.std.proofs.Common.{◌≡◌, drop, map}
use Rattle.rotor_base.specs.declared.place.Link.{Link}
use Rattle.resolution_rows.proofs.faults.same_items.Given as goal

-- the lists have the same items exactly if what is left of them has
abbrev pub invariant-loop-link : goal.invariant-loop-link
invariant-loop-link l =
    (map (λ (k : Link). k.item) (drop l.link-index l.old) ≡ map (λ (k : Link). k.item) l.rest
    → map (λ (k : Link). k.item) l.fn.old ≡ map (λ (k : Link). k.item) l.fn.new)
    × (map (λ (k : Link). k.item) l.fn.old ≡ map (λ (k : Link). k.item) l.fn.new → map (λ (k : Link). k.item) (drop l.link-index l.old) ≡ map
    (λ (k : Link). k.item) l.rest)
