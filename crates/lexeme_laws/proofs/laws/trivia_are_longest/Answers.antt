use Rattle.lexeme_laws.proofs.TriviaSound.{trivia_begin}
use Rattle.lexeme_laws.proofs.TriviaTaken.{trivia_are_taken}
use Rattle.lexeme_laws.proofs.TriviaLongest.{trivia_are_longest}
use Rattle.lexeme_laws.proofs.laws.trivia_are_longest.Goals as goal

pub returns-clause-row : goal.returns-clause-row
returns-clause-row c = trivia_begin

pub returns-clause-taken : goal.returns-clause-taken
returns-clause-taken c = trivia_are_taken

pub returns-clause-longest : goal.returns-clause-longest
returns-clause-longest c = trivia_are_longest
