use Rattle.std.proofs.Common.{◌-◌, ◌∷◌, [], map}
use Rattle.ml_trees.specs.View.{view_name}
use Rattle.token_reading.specs.Steps.{many, always}
use Rattle.token_reading.specs.PatReading as r
use Rattle.token_reading.specs.PatReading.{read_pat}
use Rattle.token_reading.specs.Tokens.{from}
use Rattle.token_reading.proofs.Turns.{Left}
use Rattle.pattern_reading.proofs.patterns.Grammar.more_names.Given as goal

abbrev pub invariant-loop-turn : goal.invariant-loop-turn
invariant-loop-turn g l =
    let part = r.as_name (read_pat l.self.depth) l.self.depth in
    Left [] ◌∷◌ always part (map view_name l.found.items) (l._turn-end - l._turn) (from l.tokens l.at)
    (many [] ◌∷◌ always part l.self.depth (from l.tokens l.fn.at))
