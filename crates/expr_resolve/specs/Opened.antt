-- The steps of an expression in the scope that an opening of a module gives (the OCaml manual, "Local opens").
use Rattle.std.specs.Prelude.{ℕ, List}
use Rattle.ml_trees.specs.Tok.{Name}
use Rattle.ml_trees.specs.Tree.{Expr}
use Rattle.shape_core.specs.Shape.{Entries, ◌⊕◌, brought}
use Rattle.binding_model.specs.Scopes.{here, path_shape}
use Rattle.binding_model.specs.Steps.{Steps, ◌⨾◌, OpenedSite}
use Rattle.binding_model.specs.Walk.{expr_steps}

abbrev pub opened_steps : ℕ → Entries → ℕ → List Name → Expr → Steps
opened_steps file sc at path e =
    OpenedSite (here file at) (path_shape sc path) ⨾ expr_steps file (sc ⊕ brought (path_shape sc path) (here file at)) e
