-- How many references the units of a sample make to a footprint, and what `U0.S.f` names among them.
use Rattle.std.proofs.Common.{◌≡◌, ◌∙◌, refl, ap, ℕ, suc, ◌+◌, ◌*◌, Bool, true, false, cond, List, [], ◌∷◌, ◌++◌, Some, Option, codes}
use Rattle.std.proofs.Common.{length, length-append, filter, if◌then◌else◌, arith}
use Rattle.std.specs.Str.{bytes_eq}
use Rattle.std.proofs.lemmas.List.Elements.{filter-append}
use Rattle.rotor_base.specs.declared.place.Place.{Place}
use Rattle.rotor_base.specs.declared.place.Foot.{Foot}
use Rattle.rotor_base.specs.declared.place.Ref.{Ref}
use Rattle.rotor_base.specs.declared.place.Goal.TheVariants.{Decl}
use Rattle.ml_trees.specs.Tree.{UnitTree}
use Rattle.shape_core.specs.Shape.{Shape, Opaque, Entries, none, or_else, or_value, find_mty, entries_in}
use Rattle.binding_model.specs.Facts.{facts, is_before, put, in_order}
use Rattle.binding_model.specs.Scopes.{unit_shape, after_unit, after_units}
use Rattle.binding_model.specs.Steps.{refs_of}
use Rattle.binding_model.specs.Walk.{steps, unit_steps, units_steps}
use Rattle.rename_model.specs.Foot.{is_in, leads_in, refs_to}
use Rattle.rename_model.specs.Target.{dotted}
use Rattle.sample_counts.proofs.Walked.{sig_f, pl, first_unit, other_unit, other_refs, HasFirst, after_first, still_first, unit_refs}

-- ---- putting in order keeps how many pass a test

module _ {A : Type 0} (p : A → Bool) (at : A → Place) where
  arranged : (x y : A) (px py : Bool) (gs fs : List A) → length gs ≡ length (cond px (x ∷ fs) fs)
      → length (cond py (y ∷ gs) gs) ≡ length (cond px (x ∷ cond py (y ∷ fs) fs) (cond py (y ∷ fs) fs))
  arranged x y true true gs fs h = ap (λ (n : ℕ). suc n) h
  arranged x y true false gs fs h = h
  arranged x y false true gs fs h = ap (λ (n : ℕ). suc n) h
  arranged x y false false gs fs h = h

  put_count : (x : A) (ys : List A) → length (filter p (put at x ys)) ≡ length (filter p (x ∷ ys))
  put_count x [] = refl
  put_count x (y ∷ ys) = by (is_before (at y) (at x)) (put_count x ys) where
    by : (b : Bool) → length (filter p (put at x ys)) ≡ length (filter p (x ∷ ys))
        → length (filter p (if b then y ∷ put at x ys else x ∷ (y ∷ ys))) ≡ length (filter p (x ∷ (y ∷ ys)))
    by true h = arranged x y (p x) (p y) (filter p (put at x ys)) (filter p ys) h
    by false h = refl

  cons_count : (x : A) (px : Bool) (gs fs : List A) → length gs ≡ length fs → length (cond px (x ∷ gs) gs) ≡ length (cond px (x ∷ fs) fs)
  cons_count x true gs fs h = ap (λ (n : ℕ). suc n) h
  cons_count x false gs fs h = h

  pub order_count : (xs : List A) → length (filter p (in_order at xs)) ≡ length (filter p xs)
  order_count [] = refl
  order_count (x ∷ xs) = put_count x (in_order at xs) ∙ cons_count x (p x) (filter p (in_order at xs)) (filter p xs) (order_count xs)

-- ---- the units after the first

pub record IsOther (u : UnitTree) : Type 0 where
  pub name : List ℕ
  pub file : ℕ
  pub another : bytes_eq name (codes "U0") ≡ false
  pub is : u ≡ other_unit name file

abbrev pub AreOthers : List UnitTree → Type 0
AreOthers [] = Unit {0}
AreOthers (u ∷ us) = IsOther u × AreOthers us

other_name : (u : UnitTree) → IsOther u → bytes_eq u.name (codes "U0") ≡ false
other_name u o = ap (λ (v : UnitTree). bytes_eq v.name (codes "U0")) o.is ∙ o.another

pub stays_first : (sc : Entries) (u : UnitTree) → HasFirst sc → IsOther u → HasFirst (after_unit sc u)
stays_first sc u h o = still_first sc u.name (unit_shape sc u) h (other_name u o)

first_at_end : (sc : Entries) (us : List UnitTree) → HasFirst sc → AreOthers us → HasFirst (after_units sc us)
first_at_end sc [] h os = h
first_at_end sc (u ∷ us) h os = first_at_end (after_unit sc u) us (stays_first sc u h os.0) os.1

-- `U0.S.f` is the `f` of the signature
pub aims : (us : List UnitTree) → AreOthers us
    → dotted (after_units none (first_unit ∷ us)) (codes "U0" ∷ codes "S" ∷ codes "f" ∷ []) ≡ Some sig_f
aims us os =
    let es = after_units (after_unit none first_unit) us in
    ap (λ (o : Option Shape). dotted (entries_in (or_value (or_else o (find_mty es (codes "U0"))) Opaque)) (codes "S" ∷ codes "f" ∷ []))
    (first_at_end (after_unit none first_unit) us after_first os).first

module _ (foot : Foot) (member : is_in foot sig_f ≡ true) where
  abbrev number : List Ref → ℕ
  number rs = length (refs_to foot rs)

  number_append : (a b : List Ref) → number (a ++ b) ≡ number a + number b
  number_append a b =
      ap (λ (l : List Ref). length l) (filter-append (λ r. leads_in foot r.goal) a b) ∙ length-append (refs_to foot a) (refs_to foot b)

  three : (j : ℕ) → number (other_refs j) ≡ 3
  three j = ap (λ (b : Bool). length (shown b (ref 17) (shown b (ref 19) (shown b (ref 35) [])))) member where
    shown : Bool → Ref → List Ref → List Ref
    shown b r rs = cond b (r ∷ rs) rs

    ref : ℕ → Ref
    ref t = record { at = pl j t; goal = Decl sig_f }

  units_count : (sc : Entries) (us : List UnitTree) → HasFirst sc → AreOthers us → number (refs_of (units_steps sc us)) ≡ 3 * length us
  units_count sc [] h os = refl
  units_count sc (u ∷ us) h os =
      let this : number (refs_of (unit_steps sc u)) ≡ 3 =
      ap (λ (v : UnitTree). number (refs_of (unit_steps sc v))) os.0.is
      ∙ ap number (unit_refs os.0.file sc h os.0.name)
      ∙ three os.0.file in
      let rest = units_count (after_unit sc u) us (stays_first sc u h os.0) os.1 in
      let both = number_append (refs_of (unit_steps sc u)) (refs_of (units_steps (after_unit sc u) us)) in
      omega (arith, this, rest, both)

  -- three references for each unit after the first
  pub counted : (us : List UnitTree) → AreOthers us → length (refs_to foot (facts (first_unit ∷ us)).refs) ≡ 3 * length us
  counted us os =
      order_count (λ r. leads_in foot r.goal) (λ r. r.at) (refs_of (steps (first_unit ∷ us)))
      ∙ units_count (after_unit none first_unit) us after_first os
