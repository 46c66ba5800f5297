-- The views of the arguments of the module of a `let module`.
use Rattle.std.proofs.Common.{◌≡◌, ℕ, refl, ap}
use Rattle.ml_trees.specs.declared.expression.LocalModule.{LocalModule}
use Rattle.ml_trees.specs.declared.expression.LocalArgument.TheVariants as v
use Rattle.ml_trees.specs.Tree as pure
use Rattle.ml_trees.specs.View.{view_path, view_local, view_local_then, view_locals}
use Rattle.ml_trees.proofs.Views.{locals_of}

pub at_local_module : (at : ℕ) (m : LocalModule) (k : pure.LocalArguments) → view_local_then (v.Module at m) k ≡ pure.more_local at (view_local m) k
unfolding view_locals
at_local_module at m k = ap (λ row. pure.more_local at (pure.LocalPath (view_path m.path) row) k) (locals_of m.arguments)

pub at_local_nothing : (at : ℕ) (k : pure.LocalArguments) → view_local_then (v.Nothing at) k ≡ pure.no_module at k
unfolding view_locals
at_local_nothing at k = refl

pub ruleset local_views = (at_local_module, at_local_nothing)
