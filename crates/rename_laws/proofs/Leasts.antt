-- If no least place has a property, no place has it.
use Rattle.std.proofs.Common.{◌≡◌, ◌⊎◌, inl, inr, ℕ, zero, suc, ◌<◌, ◌∙◌, arith, nat_lt, Bool, true, false, refl}
use Rattle.std.specs.Ordering.{MatchOrdering}
use Rattle.std.specs.declared.cmp.Ordering.{Ordering}
use Rattle.std.specs.declared.cmp.Ordering.TheVariants.{Less, Equal, Greater}
use Rattle.rotor_base.specs.declared.place.Place.{Place}
use Rattle.rotor_base.specs.Place.{IsBefore, place_cmp}
use Rattle.rotor_base.proofs.Places.{place_ranked}
use Rattle.rename_model.specs.Ladder.{IsLeast}

below_next : (n m : ℕ) → n < suc m → (n < m) ⊎ (n ≡ m)
below_next n m l = by (nat_lt n m) refl where
  by : (b : Bool) → nat_lt n m ≡ b → (n < m) ⊎ (n ≡ m)
  by true e = inl (grind arith)
  by false e = inr (grind arith)

one_of : {A B C : Type 0} (o : Ordering) → (C → ⊥) → MatchOrdering o A B C → B ⊎ A
one_of Less none h = inr h
one_of Equal none h = inl h
one_of Greater none h = absurd (none h)

module _ (P : Place → Type 0) (none : (at : Place) → IsLeast P at → ⊥) where
  -- with nothing before it, a place is the least
  is_least : (p : Place) → P p → ((q : Place) → P q → IsBefore q p → ⊥) → ⊥
  is_least p h first = none p (record { there = h; least = λ q k. one_of (place_cmp p q) (first q k) (place_ranked p q) })

  abbrev Below : ℕ → Type 0
  Below f = (p : Place) → P p → p.file < f → ⊥

  in_file : (f : ℕ) → Below f → (t : ℕ) (p : Place) → P p → p.file ≡ f → p.token < t → ⊥
  in_file f below zero p h e l = omega (arith, l)
  in_file f below (suc t) p h e l = is_least p h (λ q k b. elim b [
    | inl x ↦ below q k (omega (arith, e, x))
    | inr x ↦ in_file f below t q k (x.0 ∙ e) (let y : q.token < p.token = x.1 in omega (arith, l, y))
  ])

  below_all : (f : ℕ) → Below f
  below_all zero p h l = omega (arith, l)
  below_all (suc f) p h l =
      elim (below_next p.file f l) [ inl x ↦ below_all f p h x | inr x ↦ in_file f (below_all f) (suc p.token) p h x (omega arith) ]

  pub no_least_is_none : (p : Place) → P p → ⊥
  no_least_is_none p h = below_all (suc p.file) p h (omega arith)
