-- The order of places.
use Rattle.std.proofs.Common.{◌≡◌, ◌<◌, ◌⊎◌, true, false, sym, ◌∙◌, subst, inl, inr, arith, nat_lt}
use Rattle.rotor_base.specs.declared.place.Place.{Place}
use Rattle.rotor_base.specs.Place.{IsBefore}
use Rattle.binding_model.specs.Facts.{is_before}

pub not_before : (p : Place) → IsBefore p p → ⊥
not_before p (inl h) = omega arith
not_before p (inr h) = let less : p.token < p.token = h.1 in omega arith

pub not_both : (p q : Place) → IsBefore p q → IsBefore q p → ⊥
not_both p q (inl h) (inl k) = omega arith
not_both p q (inl h) (inr k) = let same : q.file ≡ p.file = k.0 in omega arith
not_both p q (inr h) (inl k) = let same : p.file ≡ q.file = h.0 in omega arith
not_both p q (inr h) (inr k) = let less : p.token < q.token = h.1 in let more : q.token < p.token = k.1 in omega arith

pub before_trans : (p q r : Place) → IsBefore p q → IsBefore q r → IsBefore p r
before_trans p q r (inl h) (inl k) = inl (omega (arith, h, k))
before_trans p q r (inl h) (inr k) = let e : q.file ≡ r.file = k.0 in inl (omega (arith, h, e))
before_trans p q r (inr h) (inl k) = let e : p.file ≡ q.file = h.0 in inl (omega (arith, k, e))
before_trans p q r (inr h) (inr k) = let a : p.token < q.token = h.1 in let b : q.token < r.token = k.1 in inr (h.0 ∙ k.0, omega (arith, a, b))

-- a place and one that is not before it
abbrev pub Upto : Place → Place → Type 0
Upto p q = (p ≡ q) ⊎ IsBefore p q

pub upto_before : (p q r : Place) → Upto p q → IsBefore q r → IsBefore p r
upto_before p q r (inl e) h = let P : Place → Type 0 = λ x. IsBefore x r in subst P (sym e) h
upto_before p q r (inr h) k = before_trans p q r h k

pub before_upto : (p q r : Place) → IsBefore p q → Upto q r → IsBefore p r
before_upto p q r h (inl e) = subst (IsBefore p) e h
before_upto p q r h (inr k) = before_trans p q r h k

-- the test decides the order
tested_file : (p q : Place) → nat_lt p.file q.file ≡ true → p.file < q.file
tested_file p q h = grind arith

pub tested : (p q : Place) → is_before p q ≡ true → IsBefore p q
tested p q h = grind arith

pub untested : (p q : Place) → is_before p q ≡ false → Upto q p
untested p q h = grind arith
