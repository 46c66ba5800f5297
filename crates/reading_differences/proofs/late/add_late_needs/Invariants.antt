use Rattle.std.proofs.Common.{◌≡◌, ◌++◌, length, map}
use Rattle.ml_lexer.specs.Lexed.{view_tokens}
use Rattle.ml_trees.specs.View.{view_unit}
use Rattle.reading_differences.specs.Late.{late_needs}
use Rattle.reading_differences.proofs.late.add_late_needs.Given as goal

-- those found so far and those of what is left are those of all
abbrev pub invariant-loop-rest : goal.invariant-loop-rest
invariant-loop-rest l =
    l.found.items ++ late_needs (map (λ list. view_tokens list.items) l.sources) (map view_unit l.rest)
    ≡ l.fn.found.items ++ late_needs (map (λ list. view_tokens list.items) l.sources) (map view_unit l.units)

abbrev pub decreases-loop-rest : goal.decreases-loop-rest
decreases-loop-rest l = length l.rest
