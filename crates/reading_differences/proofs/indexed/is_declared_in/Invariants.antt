use Rattle.std.proofs.Common.{◌≡◌, length, map}
use Rattle.ml_lexer.specs.Lexed.{view_token}
use Rattle.reading_differences.specs.Indexed.{declared_in}
use Rattle.reading_differences.proofs.indexed.is_declared_in.Given as goal

-- what is left decides
abbrev pub invariant-loop-rest : goal.invariant-loop-rest
invariant-loop-rest l = declared_in l.form (map view_token l.rest) ≡ declared_in l.form (map view_token l.tokens)

abbrev pub decreases-loop-rest : goal.decreases-loop-rest
decreases-loop-rest l = length l.rest
