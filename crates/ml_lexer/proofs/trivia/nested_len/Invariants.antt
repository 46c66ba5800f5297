use Rattle.std.proofs.Common.{length}
use Rattle.ml_lexer.proofs.Levels.{Kept}
use Rattle.ml_lexer.proofs.trivia.nested_len.Given as goal

abbrev pub invariant-loop-rest : goal.invariant-loop-rest
invariant-loop-rest g l = Kept (goal.F-post g l.part_at) l.depth l.read l.rest l.bytes

abbrev pub decreases-loop-rest : goal.decreases-loop-rest
decreases-loop-rest g l = length l.rest
