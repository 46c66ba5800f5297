use Rattle.ml_lexer.proofs.OneCutting.{one_lexed, one_fault, not_both}
use Rattle.ml_lexer.proofs.laws.one_cutting.Goals as goal

pub returns-clause-lexemes : goal.returns-clause-lexemes
returns-clause-lexemes c bytes one other = one_lexed

pub returns-clause-faults : goal.returns-clause-faults
returns-clause-faults c bytes one other = one_fault

pub returns-clause-apart : goal.returns-clause-apart
returns-clause-apart c bytes lexemes fault = not_both
