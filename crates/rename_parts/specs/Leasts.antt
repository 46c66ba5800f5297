-- The least place with a property, if there is one (own).
use Rattle.std.specs.Prelude.{Option, Some, None}
use Rattle.rotor_base.specs.declared.place.Place.{Place}
use Rattle.rename_model.specs.Ladder.{IsLeast}

abbrev pub IsLeastOrNone : (Place → Type 0) → Option Place → Type 0
IsLeastOrNone P None = (p : Place) → P p → ⊥
IsLeastOrNone P (Some at) = IsLeast P at
