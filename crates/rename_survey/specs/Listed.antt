-- The binders of a project, by its places (own).
use Rattle.std.specs.Prelude.{List, [], ◌∷◌, Option, Some, None, flat_map}
use Rattle.rotor_base.specs.declared.place.Place.{Place}
use Rattle.value_sites.specs.Places.{Site}
use Rattle.binding_model.specs.Facts.{in_order}
use Rattle.binding_model.specs.Renaming.{at_place}
use Rattle.value_places.specs.Binders.{binder_places}
use Rattle.rename_survey.specs.declared.answer.Binder.{Binder}
use Rattle.rename_survey.specs.Survey.{binder_of}

-- what is at a place, as a binder
abbrev pub binder_if : Place → Option Site → List Binder
binder_if p None = []
binder_if p (Some x) = binder_of (p, x) ∷ []

abbrev pub binder_at : List (Place × Site) → Place → List Binder
binder_at ps p = binder_if p (at_place ps p)

-- the binders among places, in their order
abbrev pub binders_in : List (Place × Site) → List Binder
binders_in ps = in_order (λ b. b.at) (flat_map (binder_at ps) (binder_places ps))
