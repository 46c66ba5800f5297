-- The files of a unit, joined.
use Rattle.std.proofs.Common.{◌≡◌, Option, Some, None, refl}
use Rattle.ml_trees.specs.Tree.{FileTree}
use Rattle.shape_core.specs.Shape.{Entries}
use Rattle.binding_model.specs.Scopes.{parts_shape}
use Rattle.binding_model.specs.Walk.{unit_links}
use Rattle.mod_shape.specs.Joined.{maybe_shape, joined_steps, joined_shape}

pub links_joined : (sc : Entries) (b f : Option FileTree) → unit_links sc b f ≡ joined_steps (maybe_shape sc b) (maybe_shape sc f)
links_joined sc None None = refl
links_joined sc (Some b) None = refl
links_joined sc None (Some f) = refl
links_joined sc (Some b) (Some f) = refl

pub shape_joined : (sc : Entries) (b f : Option FileTree) → parts_shape sc b f ≡ joined_shape (maybe_shape sc b) (maybe_shape sc f)
shape_joined sc None None = refl
shape_joined sc (Some b) None = refl
shape_joined sc None (Some f) = refl
shape_joined sc (Some b) (Some f) = refl

pub ruleset units_joined = (links_joined, shape_joined)
