-- The least changed binder of a set, one after another.
use Rattle.std.proofs.Common.{◌≡◌, ◌+◌, ◌<◌, ◌≤◌, ℕ, inl, inr, List, Bool, true, false, cond, Option, None, length, get_or, refl, ap, sym, subst, ◌∙◌}
use Rattle.std.proofs.lemmas.List.{get_or_default}
use Rattle.std.specs.BTreeSet.{BTreeSet, contains}
use Rattle.rotor_base.specs.Place.{place_cmp}
use Rattle.rotor_base.specs.declared.place.Place.{Place}
use Rattle.dependency_kernel.proofs.Below.{FoundBelow, found_none, found_more, found_last, found_split, found_all, found_within}
use Rattle.binding_model.specs.Facts.{earlier}
use Rattle.rename_parts.specs.Leasts.{IsLeastOrNone}
use Rattle.rename_parts.proofs.Earliest.{least_more, least_same}
use Rattle.rename_verify.specs.Changed.{Changed}
use Rattle.rename_verify.proofs.Fixing.{Among}

module _ (fixed : BTreeSet Place) (list : List Changed) where
  abbrev pub AmongBelow : ℕ → Place → Type 0
  AmongBelow n p = (c : Changed) × FoundBelow n list c × (c.0 ≡ p) × (contains place_cmp fixed p ≡ true)

  pub begin : IsLeastOrNone (AmongBelow 0) None
  begin = λ p k. found_none list k.0 k.1

  module _ (n : ℕ) (d : Changed) (best : Option Place) (within : n < length list) (h : IsLeastOrNone (AmongBelow n) best) where
    abbrev c : Changed
    c = get_or list n d

    is : c ≡ get_or list n c
    is = get_or_default list n d c within

    up : (q : Place) → AmongBelow n q → AmongBelow (n + 1) q
    up q z = (z.0, found_more n list z.0 z.1, z.2, z.3)

    by : (b : Bool) → contains place_cmp fixed c.0 ≡ b → IsLeastOrNone (AmongBelow (n + 1)) (cond b (earlier best c.0) best)
    by true t =
        least_more (AmongBelow n) (AmongBelow (n + 1)) best c.0 up (c, found_last n list c is, refl, t)
        (λ q z. elim (found_split n list z.0 c within is z.1) [
          | inl b ↦ inl (z.0, b, z.2, z.3)
          | inr e ↦ inr
              (ap (λ (x : Changed). x.0) (sym e) ∙ z.2)
        ]) h
    by false t =
        least_same (AmongBelow n) (AmongBelow (n + 1)) best up
        (λ q z. elim (found_split n list z.0 c within is z.1) [
          | inl b ↦ (z.0, b, z.2, z.3)
          | inr e ↦ (let wrong : true ≡ false = sym z.3 ∙ (ap (contains place_cmp fixed) (sym z.2 ∙ ap (λ (x : Changed). x.0) e) ∙ t) in absurd cc)
        ]) h

    pub step : (new : Option Place) → new ≡ cond (contains place_cmp fixed c.0) (earlier best c.0) best → IsLeastOrNone (AmongBelow (n + 1)) new
    step new e = subst (IsLeastOrNone (AmongBelow (n + 1))) (sym e) (by (contains place_cmp fixed c.0) refl)

  pub all : (n : ℕ) (best : Option Place) → n ≤ length list → length list ≤ n → IsLeastOrNone (AmongBelow n) best
      → IsLeastOrNone (Among list fixed) best
  all n best le ge h =
      least_same (AmongBelow n) (Among list fixed) best (λ q z. (z.0, found_within n list z.0 le z.1, z.2, z.3))
      (λ q z. (z.0, found_all n list z.0 ge z.1, z.2, z.3)) h
