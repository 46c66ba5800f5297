-- The least place with a property, place by place.
use Rattle.std.proofs.Common.{◌≡◌, ◌⊎◌, inl, inr, Bool, true, false, cond, Option, Some, None, refl, sym, subst}
use Rattle.rotor_base.specs.declared.place.Place.{Place}
use Rattle.binding_model.specs.Facts.{is_before, earlier}
use Rattle.capture_check.proofs.Before.{Upto, tested, untested, before_upto}
use Rattle.rename_model.specs.Ladder.{IsLeast}
use Rattle.rename_parts.specs.Blurs.{earlier_of}
use Rattle.rename_parts.specs.Leasts.{IsLeastOrNone}

-- one more place
pub least_more : (P Q : Place → Type 0) (best : Option Place) (p : Place) → ((q : Place) → P q → Q q) → Q p → ((q : Place) → Q q → P q ⊎ (p ≡ q))
    → IsLeastOrNone P best → IsLeastOrNone Q (earlier best p)
least_more P Q None p up here split h =
    record { there = here; least = λ q k. elim (split q k) [ inl a ↦ absurd (h q a) | inr e ↦ inl e ] }
least_more P Q (Some b) p up here split h = by (is_before p b) refl where
  by : (t : Bool) → is_before p b ≡ t → IsLeastOrNone Q (earlier (Some b) p)
  by true e =
      let l : IsLeast Q p = record {
        there = here;
        least = λ q k. elim (split q k) [ inl a ↦ inr (before_upto p b q (tested p b e) (h.least q a)) | inr f ↦ inl f ];
      } in
      subst (λ (t : Bool). IsLeast Q (cond t p b)) (sym e) l
  by false e =
      let l : IsLeast Q b = record {
        there = up b h.there;
        least = λ q k. elim (split q k) [ inl a ↦ h.least q a | inr f ↦ subst (Upto b) f (untested p b e) ];
      } in
      subst (λ (t : Bool). IsLeast Q (cond t p b)) (sym e) l

-- the same property
pub least_same : (P Q : Place → Type 0) (best : Option Place) → ((q : Place) → P q → Q q) → ((q : Place) → Q q → P q) → IsLeastOrNone P best
    → IsLeastOrNone Q best
least_same P Q None up down h = λ q k. h q (down q k)
least_same P Q (Some b) up down h = record { there = up b h.there; least = λ q k. h.least q (down q k) }

-- a place that may be missing
pub option_more : (P Q : Place → Type 0) (best found : Option Place) → ((q : Place) → P q → Q q) → ((q : Place) → found ≡ Some q → Q q)
    → ((q : Place) → Q q → P q ⊎ (found ≡ Some q))
    → IsLeastOrNone P best → IsLeastOrNone Q (earlier_of best found)
option_more P Q best None up here split h =
    least_same P Q best up (λ q k. elim (split q k) [ inl a ↦ a | inr e ↦ (let wrong : None ≡ Some q = e in absurd cc) ]) h
option_more P Q best (Some p) up here split h =
    least_more P Q best p up (here p refl) (λ q k. elim (split q k) [ inl a ↦ inl a | inr e ↦ inr (let f : p ≡ q = cc in f) ]) h
