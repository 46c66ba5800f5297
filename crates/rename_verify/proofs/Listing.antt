-- The changes that are listed are those of the candidate.
use Rattle.std.proofs.Common.{◌≡◌, ◌≢◌, ◌||◌, inl, inr, List, [], ◌∷◌, Bool, true, false, not, Some, None, map, filter, Contains, refl, ap, sym}
use Rattle.std.proofs.Common.{subst, ◌∙◌, arith}
use Rattle.std.specs.Str.{bytes_eq}
use Rattle.std.proofs.lemmas.Slice.Eq.{bytes_eq-Decides}
use Rattle.rotor_base.specs.Place.{same_place}
use Rattle.rotor_base.specs.declared.place.Place.{Place}
use Rattle.ml_lexer.specs.Lexed.{Lexeme}
use Rattle.value_sites.specs.Places.{Site}
use Rattle.value_sites.specs.Sound.{IsSound}
use Rattle.ml_trees.specs.Tree.{UnitTree}
use Rattle.shape_core.specs.Shape.{Name, or_else, some_if}
use Rattle.binding_model.specs.Renaming.{Renaming, places, at_place, name_of, site_name, Changes, IsFixedSite, IsFree}
use Rattle.binding_model.proofs.LastEntries.{same_is}
use Rattle.binding_model.proofs.Naming.{each_in}
use Rattle.binding_model.proofs.Sounds.{same_self}
use Rattle.rename_model.specs.Ladder.{IsLeast}
use Rattle.rename_parts.proofs.Earliest.{least_same}
use Rattle.rename_parts.proofs.Having.{Has, has_as, has_mapped, has_unmapped, has_filtered, has_unfiltered, has_contained, contained_has}
use Rattle.rename_survey.specs.declared.answer.Binder.{Binder}
use Rattle.rename_survey.specs.Survey.{binder_of, binders_of}
use Rattle.rename_verify.specs.Candidate.{candidate, changes, given_name}
use Rattle.rename_verify.specs.Changed.{Changed}
use Rattle.rename_verify.specs.Fixed.{IsHeld, IsLeastHeld}
use Rattle.rename_verify.specs.Verdict.{IsFixed}
use Rattle.rename_verify.proofs.Alone.{split_in}
use Rattle.rename_verify.proofs.Given.{IsListed, listed, changed_word}

-- ---- entries

has_entry : (lists : List (List Lexeme)) (bs : List Binder) (b : Binder) → Contains bs b → (z : Name) × (at_place (candidate lists bs) b.at ≡ Some z)
has_entry lists [] b c = absurd (none b c) where
  none : (b : Binder) → Contains [] b → ⊥
  none b c = omega (arith, c.1)
has_entry lists (x ∷ bs) b c = by (same_place x.at b.at) refl (has_entry lists bs b) where
  by : (v : Bool) → same_place x.at b.at ≡ v → (Contains bs b → (z : Name) × (at_place (candidate lists bs) b.at ≡ Some z)) → (z : Name)
      × (or_else (some_if (same_place x.at b.at) (given_name lists x)) (at_place (candidate lists bs) b.at) ≡ Some z)
  by true s rest = (given_name lists x, ap (λ v. or_else (some_if v (given_name lists x)) (at_place (candidate lists bs) b.at)) s)
  by false s rest = elim (split_in x bs b c) [
    | inl e ↦ (let wrong : true ≡ false = sym (same_self b.at) ∙ (ap (λ (y : Binder). same_place y.at b.at) (sym e) ∙ s) in absurd cc)
    | inr k ↦ (let z = rest k in (z.0, ap (λ v. or_else (some_if v (given_name lists x)) (at_place (candidate lists bs) b.at)) s ∙ z.1))
  ]

-- the binder of an entry
abbrev IsFrom : List (List Lexeme) → Place → Name → Binder → Type 0
IsFrom lists d y b = (b.at ≡ d) × (given_name lists b ≡ y)

from_entry : (lists : List (List Lexeme)) (bs : List Binder) (d : Place) (y : Name) → at_place (candidate lists bs) d ≡ Some y
    → Has (IsFrom lists d y) bs
from_entry lists [] d y e = let wrong : None ≡ Some y = e in absurd cc
from_entry lists (x ∷ bs) d y e = by (same_place x.at d) refl e (from_entry lists bs d y) where
  by : (v : Bool) → same_place x.at d ≡ v → or_else (some_if v (given_name lists x)) (at_place (candidate lists bs) d) ≡ Some y
      → (at_place (candidate lists bs) d ≡ Some y → Has (IsFrom lists d y) bs)
      → Has (IsFrom lists d y) (x ∷ bs)
  by true s f rest = inl (same_is x.at d s, (let g : given_name lists x ≡ y = cc in g))
  by false s f rest = inr (rest f)

-- ---- changes

abbrev change_of : List (List Lexeme) → Binder → Changed
change_of lists b = (b.at, b.name, given_name lists b)

abbrev is_change : Changed → Bool
is_change c = not (bytes_eq c.1 c.2)

other : (c : Changed) → is_change c ≡ true → c.1 ≢ c.2
other c t e = let same : bytes_eq c.1 c.2 ≡ true = (bytes_eq-Decides c.1 c.2).1 e in let wrong : false ≡ true = ap not (sym same) ∙ t in cc

is_other : (c : Changed) → c.1 ≢ c.2 → is_change c ≡ true
is_other c n = by (bytes_eq c.1 c.2) refl where
  by : (b : Bool) → bytes_eq c.1 c.2 ≡ b → not b ≡ true
  by true e = absurd (n ((bytes_eq-Decides c.1 c.2).0 e))
  by false e = refl

module _ (us : List UnitTree) (sound : IsSound us) (lists : List (List Lexeme)) where
  abbrev bs : List Binder
  bs = binders_of us

  abbrev r : Renaming
  r = candidate lists (binders_of us)

  abbrev list : List Changed
  list = changes lists (binders_of us)

  -- a listed binder has its own name
  own_name : (b : Binder) → Contains bs b → b.name ≡ name_of us b.at
  own_name b c = let l = each_in (IsListed us sound) bs b (listed us sound) c in ap (λ (x : Binder). x.name) l.is ∙ sym (ap site_name l.at)

  pub entry_is : (b : Binder) → Contains bs b → at_place r b.at ≡ Some (given_name lists b)
  entry_is b c =
      let z = has_entry lists bs b c in
      let f = contained_has (IsFrom lists b.at z.0) bs (from_entry lists bs b.at z.0 z.1) in
      let l = each_in (IsListed us sound) bs b (listed us sound) c in
      let k = each_in (IsListed us sound) bs f.0 (listed us sound) f.1 in
      let place : at_place (places us) b.at ≡ Some k.site = ap (at_place (places us)) (sym f.2.0) ∙ k.at in
      let both : Some l.site ≡ Some k.site = sym l.at ∙ place in
      let site : l.site ≡ k.site = cc in
      let same : f.0 ≡ b = k.is ∙ (ap (λ p. binder_of (p, k.site)) f.2.0 ∙ (ap (λ (s : Site). binder_of (b.at, s)) (sym site) ∙ sym l.is)) in
      z.1 ∙ ap (λ (x : Name). Some x) (sym f.2.1 ∙ ap (given_name lists) same)

  pub in_changes : (c : Changed) → Contains list c → Changes us r c.0 c.2
  in_changes c k =
      let at : Has (λ z. z ≡ c) (filter is_change (map (change_of lists) bs)) = has_contained (λ z. z ≡ c) list c k refl in
      let kept : Has (λ z. (z ≡ c) × (is_change z ≡ true)) (map (change_of lists) bs) = has_unfiltered is_change (λ z. z ≡ c)
      (map (change_of lists) bs) at in
      let f = contained_has (λ b. (change_of lists b ≡ c) × (is_change (change_of lists b) ≡ true)) bs
      (has_unmapped (change_of lists) (λ z. (z ≡ c) × (is_change z ≡ true)) bs kept) in
      let b = f.0 in
      let here : Changes us r b.at (given_name lists b) = (entry_is b f.1, λ e. other (change_of lists b) f.2.1 (own_name b f.1 ∙ sym e)) in
      subst (λ (z : Changed). Changes us r z.0 z.2) f.2.0 here

  pub changes_in : (d : Place) (y : Name) → Changes us r d y → (c : Changed) × Contains list c × (c.0 ≡ d) × (c.2 ≡ y)
  changes_in d y h =
      let f = contained_has (IsFrom lists d y) bs (from_entry lists bs d y h.0) in
      let b = f.0 in
      let c = change_of lists b in
      let differs : b.name ≢ given_name lists b = λ e. h.1 (sym f.2.1 ∙ (sym e ∙ (own_name b f.1 ∙ ap (name_of us) f.2.0))) in
      let mapped : Has (λ z. (z ≡ c) × (is_change z ≡ true)) (map (change_of lists) bs) =
      has_mapped (change_of lists) (λ z. (z ≡ c) × (is_change z ≡ true)) bs
      (has_as (λ x. x ≡ b) (λ x. (change_of lists x ≡ c) × (is_change (change_of lists x) ≡ true)) bs
      (λ x e. (ap (change_of lists) e, subst (λ z. is_change (change_of lists z) ≡ true) (sym e) (is_other c differs)))
      (has_contained (λ x. x ≡ b) bs b f.1 refl)) in
      let k = contained_has (λ z. z ≡ c) list (has_filtered is_change (λ z. z ≡ c) (map (change_of lists) bs) mapped) in
      (k.0, k.1, ap (λ (z : Changed). z.0) k.2 ∙ f.2.0, ap (λ (z : Changed). z.2) k.2 ∙ f.2.1)

  pub not_fixed : (c : Changed) → Contains list c → IsFixedSite (at_place (places us) c.0) → ⊥
  not_fixed c k f =
      let w = changed_word us sound lists c.0 c.2 (in_changes c k) in
      let fixed : (w.0.operator || w.0.pun) ≡ true = subst IsFixedSite w.1 f in
      let wrong : true ≡ false = sym fixed ∙ w.2.free in
      cc

  -- ---- the binders that may not be changed

  held_is : (p : Place) → IsHeld us list p → IsFixed us r p
  held_is p h = record { name = h.change.2; changes = subst (λ q. Changes us r q h.change.2) h.place (in_changes h.change h.among); fixed = h.fixed }

  is_held : (p : Place) → IsFixed us r p → IsHeld us list p
  is_held p h = let c = changes_in p h.name h.changes in record { change = c.0; among = c.1; place = c.2; fixed = h.fixed }

  pub least_fixed : (at : Place) → IsLeastHeld us list (Some at) → IsLeast (IsFixed us r) at
  least_fixed at h = least_same (IsHeld us list) (IsFixed us r) (Some at) held_is is_held h

  pub all_free : IsLeastHeld us list None → (d : Place) (y : Name) → Changes us r d y → IsFree us d
  all_free h d y k = let c = changes_in d y k in subst (IsFree us) c.2 (h c.0 c.1)
