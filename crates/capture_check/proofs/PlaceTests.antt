-- The test of a map for a place is that of `same_place`.
use Rattle.std.proofs.Common.{◌≡◌, Bool, true, false, refl, ap, sym, ◌∙◌, subst}
use Rattle.std.specs.Ordering.{is_eq}
use Rattle.std.proofs.lemmas.Cmp.{tied_itself}
use Rattle.std.specs.BTreeMap.{is_at}
use Rattle.rotor_base.specs.declared.place.Place.{Place}
use Rattle.rotor_base.specs.Place.{same_place, place_cmp}
use Rattle.rotor_base.proofs.Places.{place_found, place_total}
use Rattle.binding_model.proofs.LastEntries.{same_is}
use Rattle.capture_check.proofs.Twice.{same_back}

same_false : (p q : Place) → is_at (place_cmp p) q ≡ false → same_place p q ≡ false
same_false p q e = by (same_place p q) refl where
  by : (b : Bool) → same_place p q ≡ b → same_place p q ≡ false
  by false f = f
  by true f =
      let P : Place → Type 0 = λ x. is_at (place_cmp p) x ≡ false in
      let wrong : is_at (place_cmp p) p ≡ false = subst P (sym (same_is p q f)) e in
      let right : is_at (place_cmp p) p ≡ true = ap is_eq (tied_itself place_total p) in
      absurd (let z : true ≡ false = sym right ∙ wrong in cc)

pub tests_same : (p q : Place) → is_at (place_cmp p) q ≡ same_place p q
tests_same p q = by (is_at (place_cmp p) q) refl where
  by : (b : Bool) → is_at (place_cmp p) q ≡ b → is_at (place_cmp p) q ≡ same_place p q
  by true e = e ∙ sym (same_back q p (sym (place_found p q e)))
  by false e = e ∙ sym (same_false p q e)
