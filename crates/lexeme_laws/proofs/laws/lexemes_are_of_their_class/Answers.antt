use Rattle.lexeme_laws.proofs.Taken.{lexemes_begin}
use Rattle.lexeme_laws.proofs.NotBad.{lexemes_are_not_bad}
use Rattle.lexeme_laws.proofs.laws.lexemes_are_of_their_class.Goals as goal

pub returns-clause-row : goal.returns-clause-row
returns-clause-row c = lexemes_begin

pub returns-clause-not_bad : goal.returns-clause-not_bad
returns-clause-not_bad c = lexemes_are_not_bad
