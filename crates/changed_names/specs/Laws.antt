-- Renamings that give value names to what they change (the OCaml manual, "Names").
use Rattle.std.specs.Prelude.{◌≡◌, List, Some, Contains, IsTrue}
use Rattle.rotor_base.specs.Files.{FileSet, IsProject}
use Rattle.rotor_base.specs.Name.{is_value_name}
use Rattle.rotor_base.specs.declared.place.Goal.TheVariants.{Decl}
use Rattle.rotor_base.specs.declared.place.Place.{Place}
use Rattle.rotor_base.specs.declared.place.Ref.{Ref}
use Rattle.value_sites.specs.Places.{Site}
use Rattle.ml_trees.specs.Tree.{UnitTree}
use Rattle.shape_core.specs.Shape.{Name}
use Rattle.binding_model.specs.Facts.{facts}
use Rattle.binding_model.specs.Renaming.{Renaming, places, at_place, Changes, IsFixedSite}
use Rattle.project_reading.specs.Reads.{Reads}
use Rattle.respelled_reading.specs.Renamed.{GivesValueNames}

-- The renaming gives value names to what it changes. It names places that are no operators and no puns, and no use of
-- one of them is an operator or a pun.
pub record GivesToChanges (us : List UnitTree) (r : Renaming) : Type 0 where
  pub word : (d : Place) (y : Name) → Changes us r d y → IsTrue (is_value_name y)
  pub place : (d : Place) (y : Name) → at_place r d ≡ Some y → (x : Site) × (at_place (places us) d ≡ Some x)
  pub free : (d : Place) (y : Name) → at_place r d ≡ Some y → IsFixedSite (at_place (places us) d) → ⊥
  pub uses : (d : Place) (y : Name) (u : Ref) → at_place r d ≡ Some y → Contains (facts us).refs u → u.goal ≡ Decl d
      → IsFixedSite (at_place (places us) u.at) → ⊥

-- Law: such a renaming gives value names
abbrev pub ChangesAreEnough : Type 0
ChangesAreEnough =
    (files : FileSet) (us : List UnitTree) (r : Renaming) → IsProject files → Reads files us → GivesToChanges us r → GivesValueNames us r
