-- The binders that a survey lists are binders.
use Rattle.std.proofs.Common.{◌≡◌, List, [], ◌∷◌, Bool, true, false, cond, Some, map, refl, sym, subst}
use Rattle.rotor_base.specs.declared.place.Place.{Place}
use Rattle.value_sites.specs.Each.{Each}
use Rattle.value_sites.specs.Places.{Site}
use Rattle.ml_trees.specs.Tree.{UnitTree}
use Rattle.ml_trees.specs.View.{view_project}
use Rattle.binding_model.specs.Renaming.{IsBinder}
use Rattle.binding_model.specs.Renaming.{places, at_place}
use Rattle.binding_model.proofs.Naming.{each_ordered}
use Rattle.binding_model.proofs.Sounds.{found_all}
use Rattle.binding_model.proofs.Telltale.{apart_of}
use Rattle.project_reading.proofs.OneReading.{one_project}
use Rattle.value_places.specs.Binders.{binding}
use Rattle.rename_survey.specs.declared.answer.Binder.{Binder}
use Rattle.rename_survey.specs.Laws.{ListedAreBinders}
use Rattle.rename_survey.specs.Survey.{binder_of}

module _ (us : List UnitTree) where
  abbrev Binds : Binder → Type 0
  Binds b = IsBinder us b.at

  listed_bind : (L : List (Place × Site)) → Each (λ e. at_place (places us) e.0 ≡ Some e.1) L → Each Binds (map binder_of (binding L))
  listed_bind [] h = tt
  listed_bind (e ∷ L) h = by e.1.binds refl (listed_bind L h.1) where
    by : (b : Bool) → e.1.binds ≡ b → Each Binds (map binder_of (binding L)) → Each Binds (map binder_of (cond b (e ∷ binding L) (binding L)))
    by true f k = ((e.1, h.0, f), k)
    by false f k = k

pub listed_are_binders : ListedAreBinders
listed_are_binders files survey us is reads =
    let vs = view_project survey.project in
    let all = listed_bind vs (places vs) (found_all (places vs) (apart_of vs is.sound)) in
    let same : vs ≡ us = one_project files vs us is.resolves.reads reads in
    subst (λ zs. Each (λ b. IsBinder zs b.at) survey.binders.items) same
    (subst (Each (λ b. IsBinder vs b.at)) (sym is.binders)
    (each_ordered (λ b. IsBinder vs b.at) (λ b. b.at) (map binder_of (binding (places vs))) all))
