use Rattle.std.proofs.Common.{◌≡◌, ◌++◌, length, map}
use Rattle.ml_lexer.specs.Lexed.{view_token}
use Rattle.module_openings.specs.Opened.{modules_in}
use Rattle.module_openings.proofs.names.push_modules.Given as goal

-- the names so far and those of what is left are those of all
abbrev pub invariant-loop-rest : goal.invariant-loop-rest
invariant-loop-rest l = l.names ++ modules_in (map view_token l.rest) ≡ l.fn.names ++ modules_in (map view_token l.tokens)

abbrev pub decreases-loop-rest : goal.decreases-loop-rest
decreases-loop-rest l = length l.rest
