-- The least pun among hits.
use Rattle.std.proofs.Common.{◌≡◌, ℕ, ◌+◌, ◌<◌, ◌≤◌, inl, inr, List, Bool, true, false, cond, Option, None}
use Rattle.std.proofs.Common.{length, get_or, Contains, refl, ap, sym, subst, ◌∙◌, true≢false}
use Rattle.std.proofs.lemmas.List.{get_or_default}
use Rattle.rotor_base.specs.declared.place.Place.{Place}
use Rattle.dependency_kernel.proofs.Below.{FoundBelow, found_none, found_more, found_last, found_split, found_all, found_within}
use Rattle.binding_model.specs.Facts.{earlier}
use Rattle.rename_parts.specs.declared.checks.Hit.{Hit}
use Rattle.rename_parts.specs.Leasts.{IsLeastOrNone}
use Rattle.rename_parts.proofs.Earliest.{least_more, least_same}

abbrev pub PunBelow : ℕ → List Hit → Place → Type 0
PunBelow n hs p = (h : Hit) × FoundBelow n hs h × (h.pun ≡ true) × (h.place ≡ p)

pub pun_begin : (hs : List Hit) → IsLeastOrNone (PunBelow 0 hs) None
pun_begin hs = λ p k. found_none hs k.0 k.1

pub pun_more : (n : ℕ) (hs : List Hit) (h : Hit) (best : Option Place) → n < length hs → h ≡ get_or hs n h → h.pun ≡ true
    → IsLeastOrNone (PunBelow n hs) best → IsLeastOrNone (PunBelow (n + 1) hs) (earlier best h.place)
pun_more n hs h best w is t k =
    least_more (PunBelow n hs) (PunBelow (n + 1) hs) best h.place (λ q z. (z.0, found_more n hs z.0 z.1, z.2, z.3)) (h, found_last n hs h is, t, refl)
    (λ q z. elim (found_split n hs z.0 h w is z.1) [ inl b ↦ inl (z.0, b, z.2, z.3) | inr e ↦ inr (ap (λ (x : Hit). x.place) (sym e) ∙ z.3) ]) k

pub pun_less : (n : ℕ) (hs : List Hit) (h : Hit) (best : Option Place) → n < length hs → h ≡ get_or hs n h → h.pun ≡ false
    → IsLeastOrNone (PunBelow n hs) best → IsLeastOrNone (PunBelow (n + 1) hs) best
pun_less n hs h best w is t k =
    least_same (PunBelow n hs) (PunBelow (n + 1) hs) best (λ q z. (z.0, found_more n hs z.0 z.1, z.2, z.3))
    (λ q z. elim (found_split n hs z.0 h w is z.1)
    [ inl b ↦ (z.0, b, z.2, z.3) | inr e ↦ absurd (true≢false (sym z.2 ∙ (ap (λ (x : Hit). x.pun) e ∙ t))) ]) k

pub pun_all : (n : ℕ) (hs : List Hit) (best : Option Place) → n ≤ length hs → length hs ≤ n → IsLeastOrNone (PunBelow n hs) best
    → IsLeastOrNone (λ p. (h : Hit) × Contains hs h × (h.pun ≡ true) × (h.place ≡ p)) best
pun_all n hs best le ge k =
    least_same (PunBelow n hs) (λ p. (h : Hit) × Contains hs h × (h.pun ≡ true) × (h.place ≡ p)) best
    (λ q z. (z.0, found_within n hs z.0 le z.1, z.2, z.3)) (λ q z. (z.0, found_all n hs z.0 ge z.1, z.2, z.3)) k

-- one more hit, weighed
pub pun_step : (n : ℕ) (hs : List Hit) (d : Hit) (best new : Option Place) → n < length hs
    → new ≡ cond (get_or hs n d).pun (earlier best (get_or hs n d).place) best
    → IsLeastOrNone (PunBelow n hs) best → IsLeastOrNone (PunBelow (n + 1) hs) new
pun_step n hs d best new w e k = subst (IsLeastOrNone (PunBelow (n + 1) hs)) (sym e) (by (get_or hs n d).pun refl) where
  is : get_or hs n d ≡ get_or hs n (get_or hs n d)
  is = get_or_default hs n d (get_or hs n d) w

  by : (b : Bool) → (get_or hs n d).pun ≡ b → IsLeastOrNone (PunBelow (n + 1) hs) (cond b (earlier best (get_or hs n d).place) best)
  by true t = pun_more n hs (get_or hs n d) best w is t k
  by false t = pun_less n hs (get_or hs n d) best w is t k
