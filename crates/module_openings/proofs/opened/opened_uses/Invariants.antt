use Rattle.std.proofs.Common.{◌≡◌, ◌++◌, length, map}
use Rattle.ml_lexer.specs.Lexed.{view_tokens}
use Rattle.ml_trees.specs.View.{view_unit}
use Rattle.module_openings.specs.Named.{view_linked}
use Rattle.module_openings.specs.Opened.{opened_modules, opened_units}
use Rattle.module_openings.proofs.opened.opened_uses.Given as goal

-- those found so far and those of what is left are those of all
abbrev pub invariant-loop-rest : goal.invariant-loop-rest
invariant-loop-rest l =
    l.found.items ++ opened_units (map (λ list. view_tokens list.items) l.sources) (view_linked l.linked) (map view_unit l.rest)
    ≡ opened_modules (map (λ list. view_tokens list.items) l.sources) (map view_unit l.units)

abbrev pub decreases-loop-rest : goal.decreases-loop-rest
decreases-loop-rest l = length l.rest
