-- Each value has a declaration as its goal.
use Rattle.std.proofs.Common.{List, [], ◌∷◌, Bool}
use Rattle.rotor_base.specs.declared.place.Place.{Place}
use Rattle.rotor_base.specs.declared.place.Goal.{Goal}
use Rattle.rotor_base.specs.declared.place.Goal.TheVariants.{Decl, Outside, Missing, Hidden, Blur}
use Rattle.value_sites.specs.Each.{Each}
use Rattle.value_sites.specs.Places.{Site}
use Rattle.shape_core.specs.Shape.{Name, Shape, Struct, Functor, Unitary, Opaque, Entries, none, a_val, a_mod, a_mty, a_dark}
use Rattle.binding_model.specs.Renaming.{places}
use Rattle.binding_model.specs.Steps.{Steps, quiet, ◌⨾◌, UseAlone, UseUnder, MatchOf, PinOf, TieOf, GroupOf, WeighedSite, OpenedSite, UnitStart}
use Rattle.binding_model.specs.Walk.{steps}
use Rattle.binding_model.proofs.Named.{IsNamed, NamedShape, Named, NamedSteps}
use Rattle.binding_model.proofs.Naming.{PlaceNamed, units_named}
use Rattle.facts_laws.specs.Laws.{IsDecl, IsDeclared, AreDeclared, StepsAreDeclared, ValuesAreDeclared}

-- of a declaration nothing more is asked
abbrev Any : Bool → Place → Name → Type 0
Any b d x = Unit {0}

is_decl : (g : Goal) (x : Name) → IsNamed Any g x → IsDecl g
is_decl (Decl d) x h = tt
is_decl Outside x h = absurd h
is_decl Missing x h = absurd h
is_decl Hidden x h = absurd h
is_decl (Blur by n o) x h = absurd h

mutual
  shape_declared : (s : Shape) → NamedShape Any s → IsDeclared s
  shape_declared (Struct es) h = all_declared es h
  shape_declared (Functor p r) h = (shape_declared p h.0, shape_declared r h.1)
  shape_declared (Unitary r) h = shape_declared r h
  shape_declared Opaque h = tt

  all_declared : (es : Entries) → Named Any es → AreDeclared es
  all_declared none h = tt
  all_declared (a_val x g es) h = (is_decl g x h.0, all_declared es h.1)
  all_declared (a_mod X s es) h = (shape_declared s h.0, all_declared es h.1)
  all_declared (a_mty S s es) h = (shape_declared s h.0, all_declared es h.1)
  all_declared (a_dark at es) h = all_declared es h

steps_declared : (ss : Steps) → NamedSteps Any ss → StepsAreDeclared ss
steps_declared quiet h = tt
steps_declared (a ⨾ b) h = (steps_declared a h.0, steps_declared b h.1)
steps_declared (UseAlone at x sc) h = all_declared sc h.1
steps_declared (UseUnder at x s) h = shape_declared s h.1
steps_declared (MatchOf s t) h = (shape_declared s h.0, shape_declared t h.1)
steps_declared (PinOf s) h = shape_declared s h
steps_declared (TieOf p q) h = (all_declared p h.0, all_declared q h.1)
steps_declared (GroupOf es) h = all_declared es h
steps_declared (WeighedSite at s) h = shape_declared s h
steps_declared (OpenedSite at s) h = shape_declared s h
steps_declared UnitStart h = tt

any_place : (xs : List (Place × Site)) → Each (PlaceNamed Any) xs
any_place [] = tt
any_place (x ∷ xs) = (tt, any_place xs)

pub values_are_declared : ValuesAreDeclared
values_are_declared us = steps_declared (steps us) (units_named Any us none tt (any_place (places us)))
