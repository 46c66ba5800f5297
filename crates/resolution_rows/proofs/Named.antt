-- A map of the binders of a survey.
use Rattle.std.proofs.Common.{◌≡◌, List, [], ◌∷◌, map, sym, subst}
use Rattle.rotor_base.specs.declared.place.Place.{Place}
use Rattle.value_sites.specs.Each.{Each}
use Rattle.shape_core.specs.Shape.{Name}
use Rattle.rename_survey.specs.declared.answer.Binder.{Binder}

module _ (P : Place → Type 0) where
  of_places : {A : Type 0} (f : A → Place) (xs : List A) → Each P (map f xs) → Each (λ x. P (f x)) xs
  of_places f [] h = tt
  of_places f (x ∷ xs) h = (h.0, of_places f xs h.1)

  to_places : {A : Type 0} (f : A → Place) (xs : List A) → Each (λ x. P (f x)) xs → Each P (map f xs)
  to_places f [] h = tt
  to_places f (x ∷ xs) h = (h.0, to_places f xs h.1)

  pub named : (bs : List Binder) (r : List (Place × Name)) → map (λ (e : Place × Name). e.0) r ≡ map (λ (b : Binder). b.at) bs → Each (λ b. P b.at) bs
      → Each (λ e. P e.0) r
  named bs r same h = of_places (λ (e : Place × Name). e.0) r (subst (Each P) (sym same) (to_places (λ (b : Binder). b.at) bs h))
