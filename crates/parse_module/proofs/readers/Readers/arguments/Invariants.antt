use Rattle.std.proofs.Common.{◌-◌, map}
use Rattle.ml_trees.specs.Tree as pure
use Rattle.ml_trees.specs.View.{view_mod_argument}
use Rattle.module_reading.specs.ModReading.{read_mod, read_type, mod_argument}
use Rattle.token_reading.specs.Steps.{many, always}
use Rattle.token_reading.specs.Tokens.{from}
use Rattle.token_reading.proofs.Turns.{Left}
use Rattle.parse_module.proofs.readers.Readers.arguments.Given as goal

abbrev pub invariant-loop-turn : goal.invariant-loop-turn
invariant-loop-turn g l =
    let part = mod_argument (read_mod l.self.parts.depth) (read_type l.self.parts.depth) l.self.parts.depth in
    Left pure.no_mod_argument pure.more_mod_argument always part (map view_mod_argument l.found.items) (l._turn-end - l._turn) (from l.tokens l.at)
    (many pure.no_mod_argument pure.more_mod_argument always part l.self.parts.depth (from l.tokens l.fn.at))
