-- The places of a footprint (own).
use Rattle.std.specs.Prelude.{List, ◌++◌, Bool, true, false, map}
use Rattle.rotor_base.specs.declared.place.Place.{Place}
use Rattle.rotor_base.specs.declared.place.Ref.{Ref}
use Rattle.rotor_base.specs.declared.place.Foot.{Foot}
use Rattle.binding_model.specs.Facts.{in_order}
use Rattle.rename_model.specs.Foot.{refs_to}
use Rattle.value_at.specs.declared.footprint_places.ValuePlace.{ValuePlace}

-- a place that declares, or that uses
abbrev pub place_as : Bool → Place → ValuePlace
place_as is_declaration at = record { at = at; is_declaration = is_declaration }

-- the members of a footprint, which declare, and the references to them, which use, in the order of their places
abbrev pub places_of : List Ref → Foot → List ValuePlace
places_of refs foot = in_order (λ q. q.at) (map (place_as true) foot.decls ++ map (λ r. place_as false r.at) (refs_to foot refs))
