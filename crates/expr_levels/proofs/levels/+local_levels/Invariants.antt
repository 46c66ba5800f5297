use Rattle.std.proofs.Common.{◌≡◌, nat_le, drop}
use Rattle.ml_trees.specs.View.{locals}
use Rattle.expr_levels.specs.Height.{locals_height}
use Rattle.expr_levels.proofs.levels.+local_levels.Given as goal

abbrev pub invariant-module_arguments_fit-loop-argument : goal.invariant-module_arguments_fit-loop-argument
invariant-module_arguments_fit-loop-argument l = nat_le (locals_height (locals (drop l.argument-index l.list))) l.levels ≡ nat_le
    (locals_height (locals l.list)) l.levels
