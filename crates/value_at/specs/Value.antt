-- What is at a place of a project (own).
use Rattle.std.specs.Prelude.{◌≡◌, List, Contains, Option, Some, None}
use Rattle.rotor_base.specs.declared.place.Place.{Place}
use Rattle.rotor_base.specs.declared.place.Goal.{Goal}
use Rattle.rotor_base.specs.declared.place.Goal.TheVariants.{Decl, Outside, Missing, Hidden, Blur}
use Rattle.ml_trees.specs.Tree.{UnitTree}
use Rattle.binding_model.specs.Facts.{facts}
use Rattle.binding_model.specs.Renaming.{IsBinder}
use Rattle.binding_model.specs.Steps.{a_ref}
use Rattle.value_at.specs.declared.value.ValueAt.{ValueAt}
use Rattle.value_at.specs.declared.value.ValueAt.TheVariants as value

-- what a reference with a goal uses
abbrev pub goal_value : Goal → ValueAt
goal_value (Decl d) = value.Value d
goal_value (Blur by n behind) = value.Blurred
goal_value Outside = value.Outside
goal_value Missing = value.Outside
goal_value Hidden = value.Outside

-- the same, if there is one
abbrev pub used_value : Option Goal → ValueAt
used_value None = value.NoValue
used_value (Some g) = goal_value g

-- What is at a place: it declares a value; or it is a reference, which uses the value of its goal; or it is neither.
pub data IsValueAt (us : List UnitTree) (p : Place) (found : ValueAt) : Type 0 where
  declares : IsBinder us p → found ≡ value.Value p → IsValueAt us p found
  uses : (g : Goal) → (IsBinder us p → ⊥) → Contains (facts us).refs (a_ref p g) → found ≡ goal_value g → IsValueAt us p found
  nothing : (IsBinder us p → ⊥) → ((g : Goal) → Contains (facts us).refs (a_ref p g) → ⊥) → found ≡ value.NoValue → IsValueAt us p found
