use Rattle.std.proofs.Common.{◌-◌, ◌∷◌, [], map}
use Rattle.ml_trees.specs.View.{view_word}
use Rattle.token_reading.specs.Steps.{many, always}
use Rattle.token_reading.specs.Pieces.{lower_word}
use Rattle.token_reading.specs.Tokens.{from}
use Rattle.token_reading.proofs.Turns.{Left}
use Rattle.expr_forms.proofs.readers.Forms.more_types.Given as goal

abbrev pub invariant-loop-turn : goal.invariant-loop-turn
invariant-loop-turn g l =
    let part = lower_word in
    Left [] ◌∷◌ always part (map view_word l.found.items) (l._turn-end - l._turn) (from l.tokens l.at)
    (many [] ◌∷◌ always part l.self.grammar.depth (from l.tokens l.fn.at))
