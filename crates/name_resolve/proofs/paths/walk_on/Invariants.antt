use Rattle.std.proofs.Common.{◌≡◌, drop, option_copied}
use Rattle.ml_trees.specs.View.{view_words}
use Rattle.shape_core.specs.Shape.{inside}
use Rattle.binding_model.specs.Scopes.{texts}
use Rattle.name_resolve.proofs.paths.walk_on.Given as goal

abbrev pub invariant-loop-step : goal.invariant-loop-step
invariant-loop-step l = inside (option_copied l.shape) (texts (view_words (drop l.step-index l.path))) ≡ inside (option_copied l.fn.from)
    (texts (view_words l.path))
