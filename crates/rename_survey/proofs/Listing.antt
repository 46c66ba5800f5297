-- The binders that are listed are those of the project.
use Rattle.std.proofs.Common.{◌≡◌, List, [], ◌∷◌, ◌++◌, Bool, true, false, cond, Some, map, flat_map, refl, ap, ◌∙◌}
use Rattle.rotor_base.specs.declared.place.Place.{Place}
use Rattle.value_sites.specs.Each.{Each}
use Rattle.value_sites.specs.Places.{Site}
use Rattle.value_sites.specs.Sound.{IsSound}
use Rattle.ml_trees.specs.Tree.{UnitTree}
use Rattle.binding_model.specs.Facts.{in_order}
use Rattle.binding_model.specs.Renaming.{places, at_place}
use Rattle.binding_model.proofs.Sounds.{found_all}
use Rattle.binding_model.proofs.Telltale.{apart_of}
use Rattle.value_places.specs.Binders.{binding, binder_places}
use Rattle.rename_survey.specs.declared.answer.Binder.{Binder}
use Rattle.rename_survey.specs.Listed.{binder_if, binder_at, binders_in}
use Rattle.rename_survey.specs.Survey.{binder_of, binders_of}

module _ (L : List (Place × Site)) where
  each_listed : (ps : List (Place × Site)) → Each (λ e. at_place L e.0 ≡ Some e.1) ps → flat_map (binder_at L) (binder_places ps) ≡ map binder_of
      (binding ps)
  each_listed [] h = refl
  each_listed (e ∷ ps) h = by e.1.binds (each_listed ps h.1) where
    by : (b : Bool) → flat_map (binder_at L) (map (λ (z : Place × Site). z.0) (binding ps)) ≡ map binder_of (binding ps)
        → flat_map (binder_at L) (map (λ (z : Place × Site). z.0) (cond b (e ∷ binding ps) (binding ps))) ≡ map binder_of
        (cond b (e ∷ binding ps) (binding ps))
    by true k = ap (λ o. binder_if e.0 o ++ flat_map (binder_at L) (map (λ (z : Place × Site). z.0) (binding ps))) h.0 ∙ ap (λ l. binder_of e ∷ l) k
    by false k = k

pub all_listed : (us : List UnitTree) → IsSound us → binders_in (places us) ≡ binders_of us
all_listed us s = ap (in_order (λ (b : Binder). b.at)) (each_listed (places us) (places us) (found_all (places us) (apart_of us s)))
