-- A binder that takes another name (own).
use Rattle.rotor_base.specs.declared.place.Place.{Place}
use Rattle.shape_core.specs.Shape.{Name}

-- its place, its old name and its new one
abbrev pub Changed : Type 0
Changed = Place × Name × Name
