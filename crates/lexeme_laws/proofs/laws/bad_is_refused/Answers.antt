use Rattle.lexeme_laws.proofs.Refused.{bad_is_refused}
use Rattle.lexeme_laws.proofs.Unended.{bad_does_not_end}
use Rattle.lexeme_laws.proofs.laws.bad_is_refused.Goals as goal

pub returns-clause-refused : goal.returns-clause-refused
returns-clause-refused c = bad_is_refused

pub returns-clause-unended : goal.returns-clause-unended
returns-clause-unended c = bad_does_not_end
