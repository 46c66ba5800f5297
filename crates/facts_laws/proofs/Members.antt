-- Members of lists of places.
use Rattle.std.proofs.Common.{◌≡◌, ◌<◌, ◌⊎◌, inl, inr, ℕ, zero, suc, List, [], ◌∷◌, ◌++◌, Bool, true, false, length, get_or, Contains, refl}
use Rattle.std.proofs.Common.{sym, ap, ◌∙◌, arith}
use Rattle.rotor_base.specs.Place.{same_place}
use Rattle.rotor_base.specs.declared.place.Place.{Place}
use Rattle.binding_model.proofs.LastEntries.{same_is}
use Rattle.binding_model.proofs.Sounds.{same_self}

-- a place is one of a list
abbrev pub In : Place → List Place → Type 0
In p [] = ⊥
In p (q ∷ qs) = (q ≡ p) ⊎ In p qs

pub in_contains : (p : Place) (ps : List Place) → In p ps → Contains ps p
in_contains p [] h = absurd h
in_contains p (q ∷ qs) (inl e) = (0, omega arith, e)
in_contains p (q ∷ qs) (inr h) = let c = in_contains p qs h in (suc c.0, omega (arith, c.1), c.2)

pub contains_in : (p : Place) (ps : List Place) → Contains ps p → In p ps
contains_in p [] c = absurd (omega (arith, c.1))
contains_in p (q ∷ qs) c = by c.0 c.1 c.2 (contains_in p qs) where
  by : (k : ℕ) → k < suc (length qs) → get_or (q ∷ qs) k p ≡ p → (Contains qs p → In p qs) → (q ≡ p) ⊎ In p qs
  by zero l e rest = inl e
  by (suc k) l e rest = inr (rest (k, omega (arith, l), e))

pub in_left : (p : Place) (ps qs : List Place) → In p ps → In p (ps ++ qs)
in_left p [] qs h = absurd h
in_left p (x ∷ ps) qs (inl e) = inl e
in_left p (x ∷ ps) qs (inr h) = inr (in_left p ps qs h)

pub in_right : (p : Place) (ps qs : List Place) → In p qs → In p (ps ++ qs)
in_right p [] qs h = h
in_right p (x ∷ ps) qs h = inr (in_right p ps qs h)

pub in_parts : (p : Place) (ps qs : List Place) → In p (ps ++ qs) → In p ps ⊎ In p qs
in_parts p [] qs h = inr h
in_parts p (x ∷ ps) qs (inl e) = inl (inl e)
in_parts p (x ∷ ps) qs (inr h) = elim (in_parts p ps qs h) [ inl a ↦ inl (inr a) | inr b ↦ inr b ]

pub same_or_not : (p q : Place) → (p ≡ q) ⊎ ((p ≡ q) → ⊥)
same_or_not p q = by (same_place p q) refl where
  by : (b : Bool) → same_place p q ≡ b → (p ≡ q) ⊎ ((p ≡ q) → ⊥)
  by true e = inl (same_is p q e)
  by false e = inr (λ s. (let wrong : true ≡ false = sym (same_self q) ∙ (ap (λ z. same_place z q) (sym s) ∙ e) in cc))

-- whether a place is one of a list
pub in_or_not : (p : Place) (ps : List Place) → In p ps ⊎ (In p ps → ⊥)
in_or_not p [] = inr (λ h. h)
in_or_not p (q ∷ qs) = by (same_or_not q p) (in_or_not p qs) where
  by : (q ≡ p) ⊎ ((q ≡ p) → ⊥) → In p qs ⊎ (In p qs → ⊥) → In p (q ∷ qs) ⊎ (In p (q ∷ qs) → ⊥)
  by (inl e) r = inl (inl e)
  by (inr n) (inl h) = inl (inr h)
  by (inr n) (inr m) = inr (λ h. elim h [ inl e ↦ n e | inr k ↦ m k ])
