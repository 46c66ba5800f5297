use Rattle.std.proofs.Common.{◌≡◌, length, map}
use Rattle.ml_lexer.specs.Lexed.{view_token}
use Rattle.module_openings.specs.Opened.{opens_bracket}
use Rattle.module_openings.proofs.openings.opens_bracket.Given as goal

-- what is left decides
abbrev pub invariant-loop-rest : goal.invariant-loop-rest
invariant-loop-rest l = opens_bracket (map view_token l.rest) ≡ opens_bracket (map view_token l.tokens)

abbrev pub decreases-loop-rest : goal.decreases-loop-rest
decreases-loop-rest l = length l.rest
