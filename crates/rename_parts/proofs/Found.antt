-- What the scans find is what the conditions require.
use Rattle.std.proofs.Common.{◌≡◌, ◌⊎◌, inl, inr, List, [], ◌∷◌, Bool, true, false, true≢false, cond, Option, Some, None, Contains}
use Rattle.std.proofs.Common.{refl, ap, sym, subst, ◌∙◌}
use Rattle.std.specs.BTreeSet.{BTreeSet, contains}
use Rattle.std.specs.List.{list_any}
use Rattle.rotor_base.specs.Place.{same_place, place_cmp}
use Rattle.rotor_base.specs.declared.place.Place.{Place}
use Rattle.rotor_base.specs.declared.place.Goal.{Goal}
use Rattle.rotor_base.specs.declared.place.Goal.TheVariants.{Decl, Outside, Missing, Hidden, Blur}
use Rattle.rotor_base.specs.declared.place.Link.{Link}
use Rattle.rotor_base.specs.declared.place.Foot.{Foot}
use Rattle.rotor_base.specs.declared.place.Facts.{Facts}
use Rattle.rotor_base.specs.declared.refusal.Refusal.TheVariants as refusal
use Rattle.value_sites.specs.Places.{Site}
use Rattle.ml_trees.specs.Tree.{UnitTree}
use Rattle.shape_core.specs.Shape.{or_else, some_if}
use Rattle.binding_model.specs.Facts.{facts}
use Rattle.binding_model.specs.Renaming.{places, at_place, HasBehind, IsBlur}
use Rattle.binding_model.proofs.LastEntries.{same_is}
use Rattle.binding_model.proofs.Sounds.{same_self}
use Rattle.binding_model.proofs.Standing.{member_in}
use Rattle.rename_model.specs.Foot.{hits, IsIn, IsHit}
use Rattle.rename_model.specs.Renaming.{IsOperatorAt, IsPunAt, IsBlurredAt, at_reference, at_item, at_source, IsOperator}
use Rattle.rename_parts.specs.declared.checks.Hit.{Hit}
use Rattle.rename_parts.specs.Blurs.{in_set, behind_in, item_in, blurred_item, place_if, BlursRef, BlursLink}
use Rattle.rename_parts.specs.Hits.{hit_of, hit_if, hit_at, all_hits}
use Rattle.rename_parts.specs.Leasts.{IsLeastOrNone}
use Rattle.shape_core.specs.Places.{HasPlaces}
use Rattle.rename_parts.proofs.Earliest.{least_same}
use Rattle.rename_parts.proofs.Having.{Has, has_left, has_right, has_split, has_any}
use Rattle.rename_parts.proofs.Having.{any_has, has_contained, contained_has}

-- ---- sets of places

pub set_has : (ps : List Place) (set : BTreeSet Place) (p : Place) → HasPlaces ps set → contains place_cmp set p ≡ true → Contains ps p
set_has ps set p h e = member_in p ps (sym (h p) ∙ e)

pub has_set : (ps : List Place) (set : BTreeSet Place) (p : Place) → HasPlaces ps set → Contains ps p → contains place_cmp set p ≡ true
has_set ps set p h c = h p ∙ any_has (same_place p) ps (has_contained (λ q. same_place p q ≡ true) ps p c (same_self p))

-- ---- what is at a place

site_case : (z : Place × Site) (L : List (Place × Site)) (p : Place) (x : Site) (b : Bool) → same_place z.0 p ≡ b
    → (at_place L p ≡ Some x → Has (λ e. (e.0 ≡ p) × (e.1 ≡ x)) L) → or_else (some_if b z.1) (at_place L p) ≡ Some x
    → Has (λ e. (e.0 ≡ p) × (e.1 ≡ x)) (z ∷ L)
site_case z L p x true s f h = inl (same_is z.0 p s, (let q : z.1 ≡ x = cc in q))
site_case z L p x false s f h = inr (f h)

pub site_found : (L : List (Place × Site)) (p : Place) (x : Site) → at_place L p ≡ Some x → Has (λ e. (e.0 ≡ p) × (e.1 ≡ x)) L
site_found [] p x e = let wrong : None ≡ Some x = e in absurd cc
site_found (z ∷ L) p x e = site_case z L p x (same_place z.0 p) refl (site_found L p x) e

-- ---- what is at the hits

module _ (P : Hit → Type 0) (ls : List (Place × Site)) where
  hit_down : (p : Place) (o : Option Site) → Has P (hit_if p o) → (x : Site) × (o ≡ Some x) × P (hit_of p x)
  hit_down p None h = absurd h
  hit_down p (Some x) (inl h) = (x, refl, h)
  hit_down p (Some x) (inr h) = absurd h

  pub hits_down : (ps : List Place) → Has P (all_hits ps ls) → (p : Place) × (x : Site) × Has (λ q. q ≡ p) ps × (at_place ls p ≡ Some x)
      × P (hit_of p x)
  hits_down [] h = absurd h
  hits_down (p ∷ ps) h = elim (has_split P (hit_at ls p) (all_hits ps ls) h) [
    | inl a ↦ (let k = hit_down p (at_place ls p) a in (p, k.0, inl refl, k.1, k.2))
    | inr b ↦ (let k = hits_down ps b in (k.0, k.1, inr k.2, k.3, k.4))
  ]

  pub hits_up : (ps : List Place) (p : Place) (x : Site) → Has (λ q. q ≡ p) ps → at_place ls p ≡ Some x → P (hit_of p x)
      → Has P (all_hits ps ls)
  hits_up [] p x h e k = absurd h
  hits_up (q ∷ ps) p x (inl h) e k =
      has_left P (hit_at ls q) (all_hits ps ls)
      (subst (λ z. Has P (hit_at ls z)) (sym h) (subst (λ o. Has P (hit_if p o)) (sym e) (inl k)))
  hits_up (q ∷ ps) p x (inr h) e k = has_right P (hit_at ls q) (all_hits ps ls) (hits_up ps p x h e k)

-- ---- operators and puns

module _ (us : List UnitTree) (foot : Foot) where
  abbrev hs : List Place
  hs = hits (facts us).refs foot

  -- a place of a kind that takes the new word is among the hits, and the other way round
  kind_up : (P : Site → Type 0) (Q : Hit → Type 0) (p : Place) (x : Site) → at_place (places us) p ≡ Some x → IsHit us foot p → P x
      → (P x → Q (hit_of p x)) → Has Q (all_hits hs (places us))
  kind_up P Q p x e hit px up = hits_up Q (places us) hs p x (has_contained (λ q. q ≡ p) hs p hit refl) e (up px)

  kind_down : (P : Site → Type 0) (Q : Hit → Type 0) (p : Place) → ((q : Place) (x : Site) → Q (hit_of q x) → (q ≡ p) × P x)
      → Has Q (all_hits hs (places us))
      → IsHit us foot p × ((x : Site) × (at_place (places us) p ≡ Some x) × P x)
  kind_down P Q p down h =
      let k = hits_down Q (places us) hs h in
      let at = down k.0 k.1 k.4 in
      let c = contained_has (λ q. q ≡ k.0) hs k.2 in (
        subst (Contains hs) (c.2 ∙ at.0) c.1,
        (k.1, subst (λ q. at_place (places us) q ≡ Some k.1) at.0 k.3, at.1),
      )

  pub operator_met : list_any (λ h. h.operator) (all_hits hs (places us)) ≡ true → IsOperator us foot refusal.Operator
  operator_met e =
      let h = contained_has (λ (z : Hit). z.operator ≡ true) (all_hits hs (places us))
      (has_any (λ (z : Hit). z.operator) (all_hits hs (places us)) e) in
      let k = kind_down (λ x. x.operator ≡ true) (λ z. (z.operator ≡ true) × (z.place ≡ h.0.place)) h.0.place (λ q x j. (j.1, j.0))
      (has_contained (λ (z : Hit). (z.operator ≡ true) × (z.place ≡ h.0.place)) (all_hits hs (places us)) h.0 h.1 (h.2, refl)) in
      (h.0.place, k.0, k.1)

  pub operator_none : list_any (λ h. h.operator) (all_hits hs (places us)) ≡ false → (p : Place) → IsHit us foot p → IsOperatorAt us p → ⊥
  operator_none e p hit at =
      let some = kind_up (λ x. x.operator ≡ true) (λ z. z.operator ≡ true) p at.0 at.1 hit at.2 (λ j. j) in
      true≢false (sym (any_has (λ (z : Hit). z.operator) (all_hits hs (places us)) some) ∙ e)

  pub pun_least : (o : Option Place) → IsLeastOrNone (λ p. (h : Hit) × Contains (all_hits hs (places us)) h × (h.pun ≡ true) × (h.place ≡ p)) o
      → IsLeastOrNone (λ p. IsHit us foot p × IsPunAt us p) o
  pun_least o l =
      least_same (λ p. (h : Hit) × Contains (all_hits hs (places us)) h × (h.pun ≡ true) × (h.place ≡ p)) (λ p. IsHit us foot p × IsPunAt us p) o
      (λ p h. kind_down (λ x. x.pun ≡ true) (λ z. (z.pun ≡ true) × (z.place ≡ p)) p (λ q x j. (j.1, j.0))
      (has_contained (λ (z : Hit). (z.pun ≡ true) × (z.place ≡ p)) (all_hits hs (places us)) h.0 h.1 (h.2, h.3)))
      (λ p k. let r = contained_has (λ (z : Hit). (z.pun ≡ true) × (z.place ≡ p)) (all_hits hs (places us))
      (kind_up (λ x. x.pun ≡ true) (λ z. (z.pun ≡ true) × (z.place ≡ p)) p k.1.0 k.1.1 k.0 k.1.2 (λ j. (j, refl))) in (r.0, r.1, r.2.0, r.2.1)) l

-- ---- what outside modules hide

module _ (fs : Facts) (foot : Foot) (set : BTreeSet Place) (has : HasPlaces foot.decls set) where
  member_if : (d q : Place) → in_set set d ≡ Some q → (d ≡ q) × IsIn foot d
  member_if d q h = by (contains place_cmp set d) refl h where
    by : (b : Bool) → contains place_cmp set d ≡ b → cond b (Some d) None ≡ Some q → (d ≡ q) × IsIn foot d
    by true e k = ((let z : d ≡ q = cc in z), set_has foot.decls set d has e)
    by false e k = let wrong : None ≡ Some q = k in absurd cc

  if_member : (d : Place) → IsIn foot d → in_set set d ≡ Some d
  if_member d c = ap (λ b. cond b (Some d) None) (has_set foot.decls set d has c)

  behind_down : (g : Goal) (q : Place) → behind_in set g ≡ Some q → IsIn foot q × HasBehind q g
  behind_down (Blur by n (Some d)) q h = let k = member_if d q h in (subst (IsIn foot) k.0 k.1, k.0)
  behind_down (Blur by n None) q h = let wrong : None ≡ Some q = h in absurd cc
  behind_down (Decl d) q h = let wrong : None ≡ Some q = h in absurd cc
  behind_down Outside q h = let wrong : None ≡ Some q = h in absurd cc
  behind_down Missing q h = let wrong : None ≡ Some q = h in absurd cc
  behind_down Hidden q h = let wrong : None ≡ Some q = h in absurd cc

  behind_up : (g : Goal) (q : Place) → IsIn foot q → HasBehind q g → behind_in set g ≡ Some q
  behind_up (Blur by n (Some d)) q c h = ap (in_set set) h ∙ if_member q c
  behind_up (Blur by n None) q c h = absurd h
  behind_up (Decl d) q c h = absurd h
  behind_up Outside q c h = absurd h
  behind_up Missing q c h = absurd h
  behind_up Hidden q c h = absurd h

  item_down : (i g : Goal) (q : Place) → item_in set i g ≡ Some q → IsIn foot q × (i ≡ Decl q) × IsBlur g
  item_down (Decl d) (Blur by n o) q h = let k = member_if d q h in (subst (IsIn foot) k.0 k.1, ap (λ (z : Place). Decl z) k.0, tt)
  item_down (Decl d) (Decl e) q h = let wrong : None ≡ Some q = h in absurd cc
  item_down (Decl d) Outside q h = let wrong : None ≡ Some q = h in absurd cc
  item_down (Decl d) Missing q h = let wrong : None ≡ Some q = h in absurd cc
  item_down (Decl d) Hidden q h = let wrong : None ≡ Some q = h in absurd cc
  item_down Outside g q h = let wrong : None ≡ Some q = h in absurd cc
  item_down Missing g q h = let wrong : None ≡ Some q = h in absurd cc
  item_down Hidden g q h = let wrong : None ≡ Some q = h in absurd cc
  item_down (Blur by n o) g q h = let wrong : None ≡ Some q = h in absurd cc

  blur_up : (g : Goal) (q : Place) → IsIn foot q → IsBlur g → item_in set (Decl q) g ≡ Some q
  blur_up (Blur by n o) q c b = if_member q c
  blur_up (Decl d) q c b = absurd b
  blur_up Outside q c b = absurd b
  blur_up Missing q c b = absurd b
  blur_up Hidden q c b = absurd b

  place_down : (o : Option Place) (at p : Place) → place_if o at ≡ Some p → (d : Place) × (o ≡ Some d) × (at ≡ p)
  place_down None at p h = let wrong : None ≡ Some p = h in absurd cc
  place_down (Some d) at p h = (d, refl, (let z : at ≡ p = cc in z))

  ref_down : (p : Place) → BlursRef set fs.refs p → IsBlurredAt fs foot p
  ref_down p b =
      let k = place_down (behind_in set b.0.goal) b.0.at p b.2 in
      let g = behind_down b.0.goal k.0 k.1 in
      at_reference b.0.goal k.0 (subst (λ (q : Place). Contains fs.refs (record { at = q; goal = b.0.goal })) k.2 b.1) g.0 g.1

  link_down : (p : Place) (l : Link) → Contains fs.links l → (blurred_item set l ≡ Some p) ⊎ (behind_in set l.source ≡ Some p) → IsBlurredAt fs foot p
  link_down p l c (inl e) = let k = item_down l.item l.source p e in at_item l c k.0 k.1 k.2
  link_down p l c (inr e) = let k = behind_down l.source p e in at_source l c k.0 k.1

  down : (p : Place) → BlursRef set fs.refs p ⊎ BlursLink set fs.links p → IsBlurredAt fs foot p
  down p (inl b) = ref_down p b
  down p (inr b) = link_down p b.0 b.1 b.2

  up : (p : Place) → IsBlurredAt fs foot p → BlursRef set fs.refs p ⊎ BlursLink set fs.links p
  up p (at_reference g d c i b) = inl (record { at = p; goal = g }, c, ap (λ o. place_if o p) (behind_up g d i b))
  up p (at_item l c i e b) = inr (l, c, inl (ap (λ z. item_in set z l.source) e ∙ blur_up l.source p i b))
  up p (at_source l c i b) = inr (l, c, inr (behind_up l.source p i b))

  pub blurred_least : (o : Option Place) → IsLeastOrNone (λ p. BlursRef set fs.refs p ⊎ BlursLink set fs.links p) o
      → IsLeastOrNone (IsBlurredAt fs foot) o
  blurred_least o l = least_same (λ p. BlursRef set fs.refs p ⊎ BlursLink set fs.links p) (IsBlurredAt fs foot) o down up l
