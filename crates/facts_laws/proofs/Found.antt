-- Each declaration has a footprint.
use Rattle.std.proofs.Common.{◌≡◌, ◌⊎◌, inl, inr, suc, List, [], ◌∷◌, Option, Some, None, refl}
use Rattle.std.proofs.Common.{sym, ap, subst, ◌∙◌, arith}
use Rattle.rotor_base.specs.Place.{IsBefore}
use Rattle.rotor_base.specs.declared.place.Place.{Place}
use Rattle.rotor_base.specs.declared.place.Foot.{Foot}
use Rattle.rotor_base.specs.declared.place.Goal.{Goal}
use Rattle.rotor_base.specs.declared.place.Goal.TheVariants.{Decl, Outside, Missing, Hidden, Blur}
use Rattle.rotor_base.specs.declared.place.Link.{Link}
use Rattle.dependency_kernel.specs.Foot.{IsFixedBy, IsFixed, IsLeastFixed, IsFoot}
use Rattle.value_sites.specs.Each.{Each}
use Rattle.binding_model.specs.Facts.{facts}
use Rattle.facts_laws.specs.Laws.{FootprintsExist}
use Rattle.facts_laws.proofs.Members.{In, in_contains, contains_in, same_or_not}
use Rattle.facts_laws.proofs.Reached.{link_case, decl_one, reach, all_reached}
use Rattle.facts_laws.proofs.Sorted.{InOrder, sorted, sorted_ordered, in_sorted, sorted_in, all_pairs}

-- ---- whether a link fixes a declaration

decl_is : (g : Goal) (p : Place) → (g ≡ Decl p) ⊎ ((g ≡ Decl p) → ⊥)
decl_is (Decl d) p = elim (same_or_not d p) [ inl e ↦ inl (ap (λ (z : Place). Decl z) e) | inr n ↦ inr (λ e. n (decl_one d p e)) ]
decl_is Outside p = inr (λ e. cc)
decl_is Missing p = inr (λ e. cc)
decl_is Hidden p = inr (λ e. cc)
decl_is (Blur by n o) p = inr (λ e. cc)

out_is : (g : Goal) → (g ≡ Outside) ⊎ ((g ≡ Outside) → ⊥)
out_is (Decl d) = inr (λ e. cc)
out_is Outside = inl refl
out_is Missing = inr (λ e. cc)
out_is Hidden = inr (λ e. cc)
out_is (Blur by n o) = inr (λ e. cc)

both_is : {A B : Type 0} → A ⊎ (A → ⊥) → B ⊎ (B → ⊥) → (A × B) ⊎ ((A × B) → ⊥)
both_is (inl a) (inl b) = inl (a, b)
both_is (inr n) b = inr (λ k. n k.0)
both_is (inl a) (inr n) = inr (λ k. n k.1)

link_same : (l : Link) (i s : Goal) → (l.item ≡ i) × (l.source ≡ s) → l ≡ record { item = i; source = s }
link_same l i s k = ap (λ g. record { item = g; source = l.source }) k.0 ∙ ap (λ g. record { item = i; source = g }) k.1

fixes : (l : Link) (p : Place) → IsFixedBy l p ⊎ (IsFixedBy l p → ⊥)
fixes l p = by (both_is (decl_is l.item p) (out_is l.source)) (both_is (out_is l.item) (decl_is l.source p)) where
  by : ((l.item ≡ Decl p) × (l.source ≡ Outside)) ⊎ (((l.item ≡ Decl p) × (l.source ≡ Outside)) → ⊥)
      → ((l.item ≡ Outside) × (l.source ≡ Decl p)) ⊎ (((l.item ≡ Outside) × (l.source ≡ Decl p)) → ⊥) → IsFixedBy l p ⊎ (IsFixedBy l p → ⊥)
  by (inl a) o = inl (inl (link_same l (Decl p) Outside a))
  by (inr n) (inl b) = inl (inr (link_same l Outside (Decl p) b))
  by (inr n) (inr m) = inr (λ k. elim k [
    | inl e ↦ n (ap (λ (z : Link). z.item) e, ap (λ (z : Link). z.source) e)
    | inr e ↦ m (ap (λ (z : Link). z.item) e, ap (λ (z : Link). z.source) e)
  ])

is_fixed : (links : List Link) (p : Place) → IsFixed links p ⊎ (IsFixed links p → ⊥)
is_fixed [] p = inr (λ k. omega (arith, k.1.1))
is_fixed (l ∷ links) p = by (fixes l p) (is_fixed links p) where
  by : IsFixedBy l p ⊎ (IsFixedBy l p → ⊥) → IsFixed links p ⊎ (IsFixed links p → ⊥) → IsFixed (l ∷ links) p ⊎ (IsFixed (l ∷ links) p → ⊥)
  by (inl f) o = inl (l, (0, omega arith, refl), f)
  by (inr n) (inl f) = inl (f.0, (suc f.1.0, omega (arith, f.1.1), f.1.2), f.2)
  by (inr n) (inr m) = inr (λ k. elim (link_case l links k.0 k.1) [ inl e ↦ n (subst (λ z. IsFixedBy z p) (sym e) k.2) | inr c ↦ m (k.0, c, k.2) ])

-- ---- the least that is fixed

later_in : (p : Place) (ps : List Place) (q : Place) → Each (IsBefore p) ps → In q ps → IsBefore p q
later_in p [] q h i = absurd i
later_in p (x ∷ ps) q h (inl e) = subst (IsBefore p) e h.0
later_in p (x ∷ ps) q h (inr i) = later_in p ps q h.1 i

least_fixed : (links : List Link) (ps : List Place) → InOrder ps → (o : Option Place) × IsLeastFixed links ps o
least_fixed links [] h = (None, record { member = tt; fixed = tt; least = tt; none = λ q c. absurd (omega (arith, c.1)) })
least_fixed links (p ∷ ps) h = by (is_fixed links p) (least_fixed links ps h.1) where
  behind : (o : Option Place) → (IsFixed links p → ⊥) → IsLeastFixed links ps o → IsLeastFixed links (p ∷ ps) o
  behind None n r = record {
    member = tt;
    fixed = tt;
    least = tt;
    none = λ q c f. elim (contains_in q (p ∷ ps) c) [ inl e ↦ n (subst (IsFixed links) (sym e) f) | inr i ↦ r.none q (in_contains q ps i) f ];
  }
  behind (Some x) n r = record {
    member = in_contains x (p ∷ ps) (inr (contains_in x ps r.member));
    fixed = r.fixed;
    least = λ q c f. elim (contains_in q (p ∷ ps) c) [
      | inl e ↦ absurd (n (subst (IsFixed links) (sym e) f))
      | inr i ↦ r.least q (in_contains q ps i) f
    ];
    none = tt;
  }

  by : IsFixed links p ⊎ (IsFixed links p → ⊥) → (o : Option Place) × IsLeastFixed links ps o → (o : Option Place) × IsLeastFixed links (p ∷ ps) o
  by (inl f) r = (
    Some p,
    record {
      member = in_contains p (p ∷ ps) (inl refl);
      fixed = f;
      least = λ q c g. elim (contains_in q (p ∷ ps) c) [ inl e ↦ inl e | inr i ↦ inr (later_in p ps q h.0 i) ];
      none = tt;
    },
  )
  by (inr n) r = (r.0, behind r.0 n r.1)

pub footprint_of : (links : List Link) (d : Place) → (foot : Foot) × IsFoot links d foot
footprint_of links d =
    let r = reach links d in
    let ps = sorted r.0 in
    let o = least_fixed links ps (sorted_ordered r.0) in (
      record { decls = ps; outside = o.0 },
      record {
        ordered = all_pairs ps (sorted_ordered r.0);
        reached = λ p c. r.1.reached p (sorted_in r.0 p (contains_in p ps c));
        all = λ p path. in_contains p ps (in_sorted r.0 p (all_reached links d r.0 r.1 p path));
        outside = o.1;
      },
    )

pub footprints_exist : FootprintsExist
footprints_exist us d = footprint_of (facts us).links d
