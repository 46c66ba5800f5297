use Rattle.std.proofs.Common.{◌-◌, map}
use Rattle.ml_trees.specs.Tree as pure
use Rattle.ml_trees.specs.View.{view_functor_param}
use Rattle.module_reading.specs.ModReading.{read_mod, read_type, functor_param}
use Rattle.token_reading.specs.Steps.{many, always}
use Rattle.token_reading.specs.Tokens.{from}
use Rattle.token_reading.proofs.Turns.{Left}
use Rattle.module_parts.proofs.modules.Modules.functor_params.Given as goal

abbrev pub invariant-loop-turn : goal.invariant-loop-turn
invariant-loop-turn g l =
    let part = functor_param (read_mod l.self.depth) (read_type l.self.depth) l.self.depth in
    Left pure.no_functor_param pure.more_functor_param always part (map view_functor_param l.found.items) (l._turn-end - l._turn) (from l.tokens l.at)
    (many pure.no_functor_param pure.more_functor_param always part l.self.depth (from l.tokens l.fn.at))
