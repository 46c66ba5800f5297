-- The binders of a project, as a search finds them (own).
use Rattle.std.specs.Prelude.{◌≡◌, IsTrue, List, Option, Some, None, true}
use Rattle.rotor_base.specs.declared.place.Place.{Place}
use Rattle.value_sites.specs.declared.mark.Mark.{Mark}
use Rattle.value_sites.specs.Places.{Site, mark}
use Rattle.ml_trees.specs.Tree.{UnitTree}
use Rattle.shape_core.specs.Respell.{over}
use Rattle.binding_model.specs.Renaming.{places, at_place}
use Rattle.value_places.specs.Binders.{binding}

-- the first binder at a place, as the program gives it
abbrev pub mark_at : List (Place × Site) → Place → Option Mark
mark_at ps p = over mark (at_place (binding ps) p)

-- a place is a binder among these with this mark, or it is none
abbrev pub IsMarkIn : List (Place × Site) → Place → Option Mark → Type 0
IsMarkIn ps p None = ((x : Site) × (at_place ps p ≡ Some x) × IsTrue x.binds) → ⊥
IsMarkIn ps p (Some m) = (x : Site) × (at_place ps p ≡ Some x) × (x.binds ≡ true) × (m ≡ mark x)

-- of a project
abbrev pub IsMarkAt : List UnitTree → Place → Option Mark → Type 0
IsMarkAt us p o = IsMarkIn (places us) p o
