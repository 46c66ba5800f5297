use Rattle.std.proofs.Common.{◌≡◌, ◌++◌, drop, map}
use Rattle.ml_lexer.specs.Lexed.{view_tokens}
use Rattle.ml_trees.specs.View.{view_unit}
use Rattle.reading_differences.specs.Standard.{standard_units}
use Rattle.reading_differences.proofs.standard.add_standard.Given as goal

-- those found so far and those of what is left are those of all
abbrev pub invariant-loop-unit : goal.invariant-loop-unit
invariant-loop-unit l =
    l.found.items ++ standard_units (map (λ list. view_tokens list.items) l.sources) (map view_unit (drop l.unit-index l.units))
    ≡ l.fn.found.items ++ standard_units (map (λ list. view_tokens list.items) l.sources) (map view_unit l.units)
