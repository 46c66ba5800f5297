use Rattle.std.proofs.Common.{◌≡◌, ◌++◌, drop, map}
use Rattle.ml_lexer.specs.Lexed.{view_tokens}
use Rattle.ml_trees.specs.View.{view_unit}
use Rattle.reading_differences.specs.Late.{late_behind}
use Rattle.reading_differences.proofs.late.add_late.Given as goal

-- those found so far and those of what is left are those of all
abbrev pub invariant-loop-other : goal.invariant-loop-other
invariant-loop-other l =
    l.found.items ++ late_behind (map (λ list. view_tokens list.items) l.sources) (view_unit l.unit) (map view_unit (drop l.other-index l.later))
    ≡ l.fn.found.items ++ late_behind (map (λ list. view_tokens list.items) l.sources) (view_unit l.unit) (map view_unit l.later)
