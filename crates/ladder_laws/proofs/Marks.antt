-- Whether a footprint meets an operator, a pun or a Dark entry.
use Rattle.std.proofs.Common.{◌≡◌, ◌⊎◌, inl, inr, List, Bool, true, false, Option, Some, None, Contains, refl, sym, ap, subst, ◌∙◌}
use Rattle.std.specs.Prelude.{IsTrue}
use Rattle.rotor_base.specs.Place.{IsBefore}
use Rattle.rotor_base.specs.declared.place.Facts.{Facts}
use Rattle.rotor_base.specs.declared.place.Foot.{Foot}
use Rattle.rotor_base.specs.declared.place.Goal.{Goal}
use Rattle.rotor_base.specs.declared.place.Goal.TheVariants.{Decl, Outside, Missing, Hidden, Blur}
use Rattle.rotor_base.specs.declared.place.Link.{Link}
use Rattle.rotor_base.specs.declared.place.Place.{Place}
use Rattle.rotor_base.specs.declared.place.Ref.{Ref}
use Rattle.value_sites.specs.Places.{Site}
use Rattle.ml_trees.specs.Tree.{UnitTree}
use Rattle.binding_model.specs.Facts.{facts}
use Rattle.binding_model.specs.Renaming.{places, at_place, HasBehind, IsBlur}
use Rattle.binding_model.specs.Steps.{a_ref}
use Rattle.rename_model.specs.Foot.{IsIn, IsHit, hits}
use Rattle.rename_model.specs.Renaming.{IsOperatorAt, IsPunAt, IsBlurredAt, at_reference, at_item, at_source}
use Rattle.facts_laws.proofs.Members.{in_or_not, in_contains, contains_in}
use Rattle.facts_laws.proofs.Sorted.{before_all}
use Rattle.ladder_laws.proofs.Least.{Decides, Some_of, decides_as, decides_one, decides_either, decides_some}
use Rattle.ladder_laws.proofs.Repeats.{place_rank, some_contained, contained_some}

-- whether what is at a place passes a test
site_decided : (test : Site → Bool) (o : Option Site) → ((x : Site) × (o ≡ Some x) × IsTrue (test x))
    ⊎ ((x : Site) × (o ≡ Some x) × IsTrue (test x) → ⊥)
site_decided test None = inr (λ k. let wrong : None ≡ Some k.0 = k.1 in cc)
site_decided test (Some x) = by (test x) refl where
  no : test x ≡ false → (y : Site) × (Some x ≡ Some y) × IsTrue (test y) → ⊥
  no e k =
      let same : x ≡ k.0 = (let f : Some x ≡ Some k.0 = k.1 in cc) in
      let yes : test k.0 ≡ true = k.2 in
      let wrong : true ≡ false = sym yes ∙ (ap test (sym same) ∙ e) in
      cc

  by : (b : Bool) → test x ≡ b → ((y : Site) × (Some x ≡ Some y) × IsTrue (test y)) ⊎ ((y : Site) × (Some x ≡ Some y) × IsTrue (test y) → ⊥)
  by true e = inl (x, refl, e)
  by false e = inr (no e)

-- ---- one of the places that take the new word

module _ (us : List UnitTree) (foot : Foot) (P : Place → Type 0) (decide : (p : Place) → P p ⊎ (P p → ⊥)) where
  hit_decided : Decides IsBefore (λ p. IsHit us foot p × P p)
  hit_decided =
      let hs = hits (facts us).refs foot in
      let One : Place → Place → Type 0 = λ b x. (x ≡ b) × P b in
      decides_as IsBefore (Some_of IsBefore One hs) (λ p. IsHit us foot p × P p)
      (λ x h.
      let k = contained_some IsBefore One hs x h in
      (subst (Contains hs) (sym k.2.0) k.1, subst P (sym k.2.0) k.2.1))
      (λ x h. some_contained IsBefore One hs x x h.0 (refl, h.1))
      (decides_some IsBefore place_rank before_all One (λ b. decides_one IsBefore b (P b) (decide b)) hs)

pub operator_at : (us : List UnitTree) (p : Place) → IsOperatorAt us p ⊎ (IsOperatorAt us p → ⊥)
operator_at us p = site_decided (λ x. x.operator) (at_place (places us) p)

pub pun_at : (us : List UnitTree) (p : Place) → IsPunAt us p ⊎ (IsPunAt us p → ⊥)
pun_at us p = site_decided (λ x. x.pun) (at_place (places us) p)

pub operator_decided : (us : List UnitTree) (foot : Foot) → Decides IsBefore (λ p. IsHit us foot p × IsOperatorAt us p)
operator_decided us foot = hit_decided us foot (IsOperatorAt us) (operator_at us)

pub pun_decided : (us : List UnitTree) (foot : Foot) → Decides IsBefore (λ p. IsHit us foot p × IsPunAt us p)
pun_decided us foot = hit_decided us foot (IsPunAt us) (pun_at us)

-- ---- Dark entries

module _ (fs : Facts) (foot : Foot) where
  in_foot : (p : Place) → IsIn foot p ⊎ (IsIn foot p → ⊥)
  in_foot p = elim (in_or_not p foot.decls) [ inl h ↦ inl (in_contains p foot.decls h) | inr n ↦ inr (λ c. n (contains_in p foot.decls c)) ]

  -- a member is behind a goal
  abbrev Behind : Goal → Type 0
  Behind g = (d : Place) × IsIn foot d × HasBehind d g

  behind_decided : (g : Goal) → Behind g ⊎ (Behind g → ⊥)
  behind_decided (Decl d) = inr (λ k. k.2)
  behind_decided Outside = inr (λ k. k.2)
  behind_decided Missing = inr (λ k. k.2)
  behind_decided Hidden = inr (λ k. k.2)
  behind_decided (Blur by n None) = inr (λ k. k.2)
  behind_decided (Blur by n (Some e)) = elim (in_foot e) [ inl h ↦ inl (e, h, refl) | inr m ↦ inr (λ k. m (subst (IsIn foot) (sym k.2) k.1)) ]

  blur_decided : (g : Goal) → IsBlur g ⊎ (IsBlur g → ⊥)
  blur_decided (Decl d) = inr (λ k. k)
  blur_decided Outside = inr (λ k. k)
  blur_decided Missing = inr (λ k. k)
  blur_decided Hidden = inr (λ k. k)
  blur_decided (Blur by n o) = inl tt

  both_is : {A B : Type 0} → A ⊎ (A → ⊥) → B ⊎ (B → ⊥) → (A × B) ⊎ ((A × B) → ⊥)
  both_is (inl a) (inl b) = inl (a, b)
  both_is (inr n) b = inr (λ k. n k.0)
  both_is (inl a) (inr n) = inr (λ k. n k.1)

  -- by a reference, by the item of a link, and by its source
  abbrev ByRef : Ref → Place → Type 0
  ByRef r p = (p ≡ r.at) × Behind r.goal

  abbrev ByItem : Link → Place → Type 0
  ByItem l p = IsIn foot p × (l.item ≡ Decl p) × IsBlur l.source

  abbrev BySource : Link → Place → Type 0
  BySource l p = IsIn foot p × HasBehind p l.source

  decl_one : (x y : Place) → ◌≡◌ {A = Goal} (Decl x) (Decl y) → x ≡ y
  decl_one x y e = cc

  item_decided : (i s : Goal) → Decides IsBefore (λ p. IsIn foot p × (i ≡ Decl p) × IsBlur s)
  item_decided (Decl d) s =
      decides_as IsBefore (λ p. (p ≡ d) × (IsIn foot d × IsBlur s)) (λ p. IsIn foot p × (Decl d ≡ Decl p) × IsBlur s)
      (λ p k. (subst (IsIn foot) (sym k.0) k.1.0, ap (λ (z : Place). Decl z) (sym k.0), k.1.1))
      (λ p k. let e : d ≡ p = decl_one d p k.1 in (sym e, (subst (IsIn foot) (sym e) k.0, k.2)))
      (decides_one IsBefore d (IsIn foot d × IsBlur s) (both_is (in_foot d) (blur_decided s)))
  item_decided Outside s = inr (λ p k. let wrong : Outside ≡ Decl p = k.1 in cc)
  item_decided Missing s = inr (λ p k. let wrong : Missing ≡ Decl p = k.1 in cc)
  item_decided Hidden s = inr (λ p k. let wrong : Hidden ≡ Decl p = k.1 in cc)
  item_decided (Blur by n o) s = inr (λ p k. let wrong : Blur by n o ≡ Decl p = k.1 in cc)

  source_decided : (s : Goal) → Decides IsBefore (λ p. IsIn foot p × HasBehind p s)
  source_decided (Decl d) = inr (λ p k. k.1)
  source_decided Outside = inr (λ p k. k.1)
  source_decided Missing = inr (λ p k. k.1)
  source_decided Hidden = inr (λ p k. k.1)
  source_decided (Blur by n None) = inr (λ p k. k.1)
  source_decided (Blur by n (Some e)) =
      decides_as IsBefore (λ p. (p ≡ e) × IsIn foot e) (λ p. IsIn foot p × (e ≡ p))
      (λ p k. (subst (IsIn foot) (sym k.0) k.1, sym k.0))
      (λ p k. (sym k.1, subst (IsIn foot) (sym k.1) k.0))
      (decides_one IsBefore e (IsIn foot e) (in_foot e))

  abbrev Any : Place → Type 0
  Any p = Some_of IsBefore ByRef fs.refs p ⊎ (Some_of IsBefore ByItem fs.links p ⊎ Some_of IsBefore BySource fs.links p)

  any_decided : Decides IsBefore Any
  any_decided =
      decides_either IsBefore place_rank before_all (Some_of IsBefore ByRef fs.refs)
      (λ p. Some_of IsBefore ByItem fs.links p ⊎ Some_of IsBefore BySource fs.links p)
      (decides_some IsBefore place_rank before_all ByRef (λ r. decides_one IsBefore r.at (Behind r.goal) (behind_decided r.goal)) fs.refs)
      (decides_either IsBefore place_rank before_all (Some_of IsBefore ByItem fs.links) (Some_of IsBefore BySource fs.links)
      (decides_some IsBefore place_rank before_all ByItem (λ l. item_decided l.item l.source) fs.links)
      (decides_some IsBefore place_rank before_all BySource (λ l. source_decided l.source) fs.links))

  any_blurred : (p : Place) → Any p → IsBlurredAt fs foot p
  any_blurred p (inl h) =
      let k = contained_some IsBefore ByRef fs.refs p h in
      let r = k.0 in
      let there : Contains fs.refs (a_ref p r.goal) = subst (λ q. Contains fs.refs (a_ref q r.goal)) (sym k.2.0) k.1 in
      at_reference r.goal k.2.1.0 there k.2.1.1 k.2.1.2
  any_blurred p (inr (inl h)) = let k = contained_some IsBefore ByItem fs.links p h in at_item k.0 k.1 k.2.0 k.2.1 k.2.2
  any_blurred p (inr (inr h)) = let k = contained_some IsBefore BySource fs.links p h in at_source k.0 k.1 k.2.0 k.2.1

  blurred_any : (p : Place) → IsBlurredAt fs foot p → Any p
  blurred_any p (at_reference g d c i b) = inl (some_contained IsBefore ByRef fs.refs (a_ref p g) p c (refl, (d, i, b)))
  blurred_any p (at_item l c i e b) = inr (inl (some_contained IsBefore ByItem fs.links l p c (i, e, b)))
  blurred_any p (at_source l c i b) = inr (inr (some_contained IsBefore BySource fs.links l p c (i, b)))

  pub blurred_decided : Decides IsBefore (IsBlurredAt fs foot)
  blurred_decided = decides_as IsBefore Any (IsBlurredAt fs foot) any_blurred blurred_any any_decided
