use Rattle.std.proofs.Common.{◌≡◌, ◌++◌, drop, false, map}
use Rattle.ml_lexer.specs.Lexed.{view_tokens}
use Rattle.ml_trees.specs.View.{view_unit}
use Rattle.reading_differences.specs.Indexed.{indexes}
use Rattle.reading_differences.proofs.indexed.index_places.Given as goal

-- those found so far and those of what is left are those of all
abbrev pub invariant-loop-unit : goal.invariant-loop-unit
invariant-loop-unit l =
    l.places.items ++ indexes l.form (map (λ list. view_tokens list.items) l.sources) l.nested l.known (map view_unit (drop l.unit-index l.units))
    ≡ indexes l.form (map (λ list. view_tokens list.items) l.sources) false false (map view_unit l.units)
