use Rattle.std.proofs.Common.{length}
use Rattle.ml_lexer.proofs.Cut.{Left}
use Rattle.ml_lexer.proofs.scan.lex.Given as goal

abbrev pub invariant-loop-rest : goal.invariant-loop-rest
invariant-loop-rest l = Left l.src l.rest l.tokens.items

abbrev pub decreases-loop-rest : goal.decreases-loop-rest
decreases-loop-rest l = length l.rest
