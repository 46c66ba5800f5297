-- The places that take the new word are the members of the footprint and the references to them.
use Rattle.std.proofs.Common.{◌≡◌, ◌⊎◌, inl, inr, List, ◌++◌, true, true≢false, map, Contains, refl, sym, subst}
use Rattle.rotor_base.specs.declared.place.Place.{Place}
use Rattle.rotor_base.specs.declared.place.Goal.{Goal}
use Rattle.rotor_base.specs.declared.place.Goal.TheVariants.{Decl, Outside, Missing, Hidden, Blur}
use Rattle.rotor_base.specs.declared.place.Ref.{Ref}
use Rattle.rotor_base.specs.declared.place.Foot.{Foot}
use Rattle.ml_trees.specs.Tree.{UnitTree}
use Rattle.binding_model.specs.Facts.{facts}
use Rattle.binding_model.proofs.Standing.{member_in}
use Rattle.rename_model.specs.Foot.{IsIn, IsHit, leads_in, refs_to}
use Rattle.rename_parts.proofs.Having.{has_split, has_contained, contained_has, has_unmapped, has_unfiltered, has_left}

pub leads : (foot : Foot) (g : Goal) → leads_in foot g ≡ true → (m : Place) × (g ≡ Decl m) × IsIn foot m
leads foot (Decl m) e = (m, refl, member_in m foot.decls e)
leads foot Outside e = absurd (true≢false (sym e))
leads foot Missing e = absurd (true≢false (sym e))
leads foot Hidden e = absurd (true≢false (sym e))
leads foot (Blur by n o) e = absurd (true≢false (sym e))

module _ (us : List UnitTree) (foot : Foot) where
  abbrev R : List Ref
  R = (facts us).refs

  pub hit_cases : (p : Place) → IsHit us foot p → IsIn foot p ⊎ ((r : Ref) × Contains R r × (r.at ≡ p) × (leads_in foot r.goal ≡ true))
  hit_cases p c = elim (has_split (λ q. q ≡ p) foot.decls (map (λ r. r.at) (refs_to foot R))
      (has_contained (λ q. q ≡ p) (foot.decls ++ map (λ r. r.at) (refs_to foot R)) p c refl)) [
        | inl a ↦ (let z = contained_has (λ q. q ≡ p) foot.decls a in inl (subst (IsIn foot) z.2 z.1))
        | inr b ↦ (let z = contained_has (λ (r : Ref). (r.at ≡ p) × (leads_in foot r.goal ≡ true)) R
            (has_unfiltered (λ r. leads_in foot r.goal) (λ (r : Ref). r.at ≡ p) R (has_unmapped (λ (r : Ref). r.at) (λ q. q ≡ p) (refs_to foot R) b))
            in
            inr (z.0, z.1, z.2.0, z.2.1))
      ]

  pub member_hit : (d : Place) → IsIn foot d → IsHit us foot d
  member_hit d inside =
      let z = contained_has (λ q. q ≡ d) (foot.decls ++ map (λ r. r.at) (refs_to foot R))
      (has_left (λ q. q ≡ d) foot.decls (map (λ r. r.at) (refs_to foot R)) (has_contained (λ q. q ≡ d) foot.decls d inside refl)) in
      subst (IsHit us foot) z.2 z.1
