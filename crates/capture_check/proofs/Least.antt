-- The first change of two lists, thing by thing.
use Rattle.std.proofs.Common.{◌≡◌, ℕ, ◌+◌, ◌<◌, ◌≤◌, ◌⊎◌, Bool, true, false, refl, ap, sym, ◌∙◌, subst, inl, inr, arith, List, length, Option, Some}
use Rattle.std.proofs.Common.{None, if◌then◌else◌}
use Rattle.std.specs.Prelude.{slice_get}
use Rattle.std.proofs.lemmas.Option.{slice_get_within}
use Rattle.std.proofs.lemmas.Bool.{cases_order}
use Rattle.rotor_base.specs.declared.place.Place.{Place}
use Rattle.rotor_base.specs.declared.place.Goal.{Goal}
use Rattle.rotor_base.specs.Place.{IsBefore}
use Rattle.rotor_base.proofs.Rising.{some_is}
use Rattle.binding_model.specs.Facts.{is_before}
use Rattle.capture_check.specs.declared.fault.Change.{Change}
use Rattle.rotor_base.specs.declared.place.Goal.TheVariants.{Decl}
use Rattle.rotor_base.specs.declared.place.Ref.{Ref}
use Rattle.rotor_base.specs.declared.place.Link.{Link}
use Rattle.capture_check.specs.Fault.{of_ref, of_link, Differs}
use Rattle.capture_check.specs.Firsts.{IsFirstChange, Tells, earlier_change}
use Rattle.capture_check.proofs.Before.{before_trans, Upto, tested, untested}

-- a maker of things that keeps the place
abbrev pub KeepsPlace : {A : Type 0} → (Place → Goal → A) → Type 0
KeepsPlace make = (p q : Place) (g h : Goal) → make p g ≡ make q h → p ≡ q

pub keeps_ref : KeepsPlace of_ref
keeps_ref p q g h e = ap (λ (r : Ref). r.at) e

pub keeps_link : KeepsPlace of_link
keeps_link p q g h e = let f : Decl p ≡ Decl q = ap (λ (l : Link). l.item) e in cc

module _ {A : Type 0} (make : Place → Goal → A) (old new : List A) where
  -- the first change among the things below a number, or none
  pub record IsFound (n : ℕ) (c : Change) : Type 0 where
    pub number : ℕ
    pub below : number < n
    pub differs : Differs make old new number c.at c.was c.would
    pub least : (k : ℕ) (p : Place) (w v : Goal) → k < n → Differs make old new k p w v → IsBefore c.at p ⊎ ((c.at ≡ p) × (number ≤ k))

  abbrev pub IsBest : ℕ → Option Change → Type 0
  IsBest n None = (k : ℕ) (p : Place) (w v : Goal) → k < n → Differs make old new k p w v → ⊥
  IsBest n (Some c) = IsFound n c

module _ {A : Type 0} (make : Place → Goal → A) (keeps : KeepsPlace make) (old new : List A) where
  pub best_begin : IsBest make old new 0 None
  best_begin = λ k p w v h d. omega arith

  split : (k n : ℕ) → k < n + 1 → (k < n) ⊎ (k ≡ n)
  split k n h = elim (cases_order k n) [
    | inl e ↦ inr e
    | inr e ↦ elim e [ inl lt ↦ inl lt | inr gt ↦ absurd (omega arith) ]
  ]

  place_is : (o : Option A) (p q : Place) (g h : Goal) → o ≡ Some (make p g) → o ≡ Some (make q h) → p ≡ q
  place_is o p q g h e f = keeps p q g h (some_is (make p g) (make q h) (sym e ∙ f))

  -- a thing with no change
  same : (n : ℕ) (best : Option Change) → Tells make (slice_get old n) (slice_get new n) None → IsBest make old new n best
      → IsBest make old new (n + 1) best
  same n None t h = λ k p w v lt d. elim (split k n lt) [
    | inl b ↦ h k p w v b d
    | inr e ↦ let P : ℕ → Type 0 = λ k. Differs make old new k p w v in let f = subst P e d in t p w v f.old_one f.new_one f.differ
  ]
  same n (Some c) t h =
      let b : h.number < n = h.below in
      record {
        number = h.number;
        below = omega (arith, b);
        differs = h.differs;
        least = λ k p w v lt d. elim (split k n lt) [
          | inl b ↦ h.least k p w v b d
          | inr e ↦ let P : ℕ → Type 0 = λ k. Differs make old new k p w v in let f = subst P e d in absurd (t p w v f.old_one f.new_one f.differ)
        ];
      }

  module _ (n : ℕ) (c : Change) (t : Tells make (slice_get old n) (slice_get new n) (Some c)) where
    here : Differs make old new n c.at c.was c.would
    here = record { old_one = t.0; new_one = t.1; differ = t.2 }

    there : (k : ℕ) (p : Place) (w v : Goal) → k ≡ n → Differs make old new k p w v → c.at ≡ p
    there k p w v e d = let P : ℕ → Type 0 = λ k. Differs make old new k p w v in place_is (slice_get old n) c.at p c.was w t.0 (subst P e d).old_one

    first : IsBest make old new n None → IsBest make old new (n + 1) (Some c)
    first h = record {
      number = n;
      below = omega arith;
      differs = here;
      least = λ k p w v lt d. elim (split k n lt) [
        | inl b ↦ absurd (h k p w v b d)
        | inr e ↦ inr (there k p w v e d, omega (arith, e))
      ];
    }

    less : (a : Change) → IsBefore c.at a.at → IsFound make old new n a → IsBest make old new (n + 1) (Some c)
    less a lb h = record {
      number = n;
      below = omega arith;
      differs = here;
      least = λ k p w v lt d. elim (split k n lt) [
        | inl b ↦ elim (h.least k p w v b d) [
          | inl more ↦ inl (before_trans c.at a.at p lb more)
          | inr s ↦ inl (subst (IsBefore c.at) s.0 lb)
        ]
        | inr e ↦ inr (there k p w v e d, omega (arith, e))
      ];
    }

    not_less : (a : Change) → Upto a.at c.at → IsFound make old new n a → IsBest make old new (n + 1) (Some a)
    not_less a up h =
        let b : h.number < n = h.below in
        record {
          number = h.number;
          below = omega (arith, b);
          differs = h.differs;
          least = λ k p w v lt d. elim (split k n lt) [
            | inl b ↦ h.least k p w v b d
            | inr e ↦ elim up [
              | inl s ↦ inr (s ∙ there k p w v e d, omega (arith, b, e))
              | inr more ↦ inl (subst (IsBefore a.at) (there k p w v e d) more)
            ]
          ];
        }

    or_earlier : (a : Change) (b : Bool) → is_before c.at a.at ≡ b → IsFound make old new n a
        → IsBest make old new (n + 1) (Some (if b then c else a))
    or_earlier a true e h = less a (tested c.at a.at e) h
    or_earlier a false e h = not_less a (untested c.at a.at e) h

  pub best_more : (n : ℕ) (best found : Option Change) → Tells make (slice_get old n) (slice_get new n) found → IsBest make old new n best
      → IsBest make old new (n + 1) (earlier_change best found)
  best_more n None None t h = same n None t h
  best_more n None (Some c) t h = first n c t h
  best_more n (Some a) None t h = same n (Some a) t h
  best_more n (Some a) (Some c) t h = or_earlier n c t a (is_before c.at a.at) refl h

  below_all : (n k : ℕ) (x : A) → length old ≤ n → slice_get old k ≡ Some x → k < n
  below_all n k x le e = let lt = slice_get_within old k x e in omega (arith, lt, le)

  pub best_all : (n : ℕ) (best : Option Change) → length old ≤ n → IsBest make old new n best → IsFirstChange make old new best
  best_all n None le h = λ k p w v d. h k p w v (below_all n k (make p w) le d.old_one) d
  best_all n (Some c) le h =
      record { number = h.number; differs = h.differs; least = λ k p w v d. h.least k p w v (below_all n k (make p w) le d.old_one) d }
