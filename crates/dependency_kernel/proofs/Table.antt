-- One step of the table of neighbors.
use Rattle.std.proofs.Common.{◌<◌, arith, ◌≡◌, ◌⊎◌, Bool, true, false, cond, refl, ap, sym, ◌∙◌, subst, inl, inr, List, [], Option, Some, None}
use Rattle.std.proofs.Common.{Contains}
use Rattle.std.specs.Prelude.{IsSomeAnd}
use Rattle.std.specs.BTreeMap.{BTreeMap, get, is_at}
use Rattle.std.specs.Global.{Vec}
use Rattle.rotor_base.specs.declared.place.Place.{Place}
use Rattle.rotor_base.specs.Place.{place_cmp}
use Rattle.dependency_kernel.specs.Neighbors.{HasNeighbor}
use Rattle.rotor_base.proofs.Places.{place_found}

-- there is a list, and the place is in it
abbrev pub InList : Place → Option (Vec Place) → Type 0
InList b o = IsSomeAnd o (λ list. Contains list.items b)

-- in m the entry of `from` is that of `one`, and all others are those of `old`
abbrev pub Puts : BTreeMap Place (Vec Place) → BTreeMap Place (Vec Place) → Place → Option (Vec Place) → Type 0
Puts old m from one = (q : Place) → get place_cmp m q ≡ cond (is_at (place_cmp from) q) one (get place_cmp old q)

module _ (old m : BTreeMap Place (Vec Place)) (from : Place) (one : Option (Vec Place)) (put : Puts old m from one) where
  pub at_from : (q : Place) (t : Bool) → is_at (place_cmp from) q ≡ t → get place_cmp m q ≡ cond t one (get place_cmp old q)
  at_from q t e = put q ∙ ap (λ (u : Bool). cond u one (get place_cmp old q)) e

  -- what the other entries have, and what the new entry has, is in the new table
  pub put_keeps : ((b : Place) → HasNeighbor old from b → InList b one) → (a b : Place) → HasNeighbor old a b → HasNeighbor m a b
  put_keeps was a b h = by_test (is_at (place_cmp from) a) refl where
    by_test : (t : Bool) → is_at (place_cmp from) a ≡ t → HasNeighbor m a b
    by_test true e = subst (InList b) (sym (at_from a true e))
        (was b (let P : Place → Type 0 = λ x. HasNeighbor old x b in subst P (sym (place_found from a e)) h))
    by_test false e = subst (InList b) (sym (at_from a false e)) h

  -- what the new table has is in the old one or in the new entry
  pub put_only : (a b : Place) → HasNeighbor m a b → HasNeighbor old a b ⊎ ((from ≡ a) × InList b one)
  put_only a b h = by_test (is_at (place_cmp from) a) refl where
    by_test : (t : Bool) → is_at (place_cmp from) a ≡ t → HasNeighbor old a b ⊎ ((from ≡ a) × InList b one)
    by_test true e = inr (place_found from a e, subst (InList b) (at_from a true e) h)
    by_test false e = inl (subst (InList b) (at_from a false e) h)

  -- an entry of another place stays
  pub put_other : (a b : Place) → (from ≡ a → ⊥) → HasNeighbor old a b → HasNeighbor m a b
  put_other a b apart h = by_test (is_at (place_cmp from) a) refl where
    by_test : (t : Bool) → is_at (place_cmp from) a ≡ t → HasNeighbor m a b
    by_test true e = absurd (apart (place_found from a e))
    by_test false e = subst (InList b) (sym (at_from a false e)) h

-- taking an entry out and putting one in is putting it in
pub cond_twice : {X : Type 0} (t : Bool) (a b c : X) → cond t a (cond t b c) ≡ cond t a c
cond_twice true a b c = refl
cond_twice false a b c = refl

-- the places are those of the list that was taken out, or none if there was none
abbrev pub IsTaken : Option (Vec Place) → List Place → Type 0
IsTaken taken places = ((list : Vec Place) × (taken ≡ Some list) × (list.items ≡ places)) ⊎ ((taken ≡ None) × (places ≡ []))

-- they have each neighbor that the table has
pub taken_has : (old : BTreeMap Place (Vec Place)) (from : Place) (taken : Option (Vec Place)) (places : List Place) → taken ≡ get place_cmp old from
    → IsTaken taken places
    → (b : Place) → HasNeighbor old from b → Contains places b
taken_has old from taken places value (inl e) b h = let P : List Place → Type 0 = λ xs. Contains xs b in
    subst P e.2 (subst (InList b) (sym value ∙ e.1) h)
taken_has old from taken places value (inr e) b h = absurd (subst (InList b) (sym value ∙ e.0) h)

-- and no other
pub taken_only : (old : BTreeMap Place (Vec Place)) (from : Place) (taken : Option (Vec Place)) (places : List Place) → taken ≡ get place_cmp old from
    → IsTaken taken places
    → (b : Place) → Contains places b → HasNeighbor old from b
taken_only old from taken places value (inl e) b h = let P : List Place → Type 0 = λ xs. Contains xs b in
    subst (InList b) (sym (sym value ∙ e.1)) (subst P (sym e.2) h)
taken_only old from taken places value (inr e) b h =
    let P : List Place → Type 0 = λ xs. Contains xs b in
    let none : Contains [] b = subst P e.1 h in
    let below : none.0 < 0 = none.1 in
    absurd (omega arith)
