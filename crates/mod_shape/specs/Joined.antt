-- The shapes of the files of a unit, and what joins them (the OCaml manual, "Compilation units").
use Rattle.std.specs.Prelude.{Option, Some, None}
use Rattle.ml_trees.specs.Tree.{FileTree}
use Rattle.shape_core.specs.Shape.{Shape, Opaque, Entries}
use Rattle.binding_model.specs.Scopes.{file_shape}
use Rattle.binding_model.specs.Steps.{Steps, quiet, MatchOf, PinOf}

abbrev pub maybe_shape : Entries → Option FileTree → Option Shape
maybe_shape sc None = None
maybe_shape sc (Some t) = Some (file_shape sc t)

-- a body is matched with its interface, and an interface alone is pinned
abbrev pub joined_steps : Option Shape → Option Shape → Steps
joined_steps None None = quiet
joined_steps (Some body) None = quiet
joined_steps None (Some face) = PinOf face
joined_steps (Some body) (Some face) = MatchOf body face

abbrev pub joined_shape : Option Shape → Option Shape → Shape
joined_shape body (Some face) = face
joined_shape (Some body) None = body
joined_shape None None = Opaque
