-- The shapes of a functor's parameters, none of a parameter `()`, and the optional signature of a
-- module (the OCaml manual, "Module expressions").
use Rattle.std.specs.Prelude.{ℕ, List, [], ◌∷◌, Option, Some, None}
use Rattle.rotor_base.specs.declared.place.Place.{Place}
use Rattle.ml_trees.specs.Tree.{FunctorParam, NamedParam, NoParam, FunctorParams, no_functor_param, more_functor_param, MaybeType, no_type}
use Rattle.ml_trees.specs.Tree.{some_type}
use Rattle.shape_core.specs.Shape.{Shape, Functor, Unitary, Entries, none, ◌⊕◌}
use Rattle.binding_model.specs.Scopes.{named, type_shape, param_in}
use Rattle.binding_model.specs.Steps.{Steps, quiet, ◌⨾◌, MatchOf, WeighedSite}
use Rattle.binding_model.specs.Walk.{type_steps}

abbrev pub given_shape : ℕ → Entries → FunctorParam → Option Shape
given_shape file sc (NamedParam at x s) = Some (type_shape file sc s)
given_shape file sc (NoParam at) = None

abbrev pub given_shapes : ℕ → Entries → FunctorParams → List (Option Shape)
given_shapes file sc no_functor_param = []
given_shapes file sc (more_functor_param p ps) = given_shape file sc p ∷ given_shapes file (sc ⊕ param_in file sc p) ps

-- a functor with such a parameter, and with such parameters
abbrev pub functor_to : Option Shape → Shape → Shape
functor_to (Some s) r = Functor s r
functor_to None r = Unitary r

abbrev pub functors_to : List (Option Shape) → Shape → Shape
functors_to [] r = r
functors_to (o ∷ os) r = functor_to o (functors_to os r)

-- what a parameter of this shape brings to the scope
abbrev pub given_in : FunctorParam → Option Shape → Entries
given_in (NamedParam at x s) (Some t) = named x t
given_in (NamedParam at x s) None = none
given_in (NoParam at) o = none

-- the signature of a module, if there is one
abbrev pub optional_shape : ℕ → Entries → MaybeType → Option Shape
optional_shape file sc no_type = None
optional_shape file sc (some_type s) = Some (type_shape file sc s)

abbrev pub optional_type_steps : ℕ → Entries → MaybeType → Steps
optional_type_steps file sc no_type = quiet
optional_type_steps file sc (some_type s) = type_steps file sc s

abbrev pub seal_steps : Shape → Option Shape → Steps
seal_steps s None = quiet
seal_steps s (Some t) = MatchOf s t

abbrev pub seal_shape : Shape → Option Shape → Shape
seal_shape s None = s
seal_shape s (Some t) = t

-- a module is sealed, and the site of its item ends with the functor of these parameters
abbrev pub site_steps : Place → List (Option Shape) → Shape → Option Shape → Steps
site_steps at os s o = seal_steps s o ⨾ WeighedSite at (functors_to os (seal_shape s o))
