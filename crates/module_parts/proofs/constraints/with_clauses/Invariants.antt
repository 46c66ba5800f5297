use Rattle.std.proofs.Common.{◌-◌, ◌∷◌, [], map}
use Rattle.ml_trees.specs.View.{view_with}
use Rattle.module_reading.specs.ModReading.{with_clause}
use Rattle.token_reading.specs.Steps.{many, always}
use Rattle.token_reading.specs.Tokens.{from}
use Rattle.token_reading.proofs.Turns.{Left}
use Rattle.module_parts.proofs.constraints.with_clauses.Given as goal

abbrev pub invariant-loop-turn : goal.invariant-loop-turn
invariant-loop-turn l =
    let part = with_clause l.depth in
    Left [] ◌∷◌ always part (map view_with l.found.items) (l.depth - l._turn) (from l.tokens l.at)
    (many [] ◌∷◌ always part l.depth (from l.tokens l.fn.at))
