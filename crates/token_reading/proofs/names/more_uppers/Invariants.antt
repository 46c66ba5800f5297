use Rattle.std.proofs.Common.{◌-◌, ◌∷◌, [], map}
use Rattle.ml_trees.specs.View.{view_word}
use Rattle.token_reading.specs.Steps.{many, always}
use Rattle.token_reading.specs.Pieces.{dot_upper}
use Rattle.token_reading.specs.Tokens.{from}
use Rattle.token_reading.proofs.Turns.{Left}
use Rattle.token_reading.proofs.names.more_uppers.Given as goal

abbrev pub invariant-loop-turn : goal.invariant-loop-turn
invariant-loop-turn l =
    let part = dot_upper in
    Left [] ◌∷◌ always part (map view_word l.found.items) (l.depth - l._turn) (from l.tokens l.at)
    (many [] ◌∷◌ always part l.depth (from l.tokens l.fn.at))
