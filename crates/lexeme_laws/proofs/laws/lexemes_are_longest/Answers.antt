use Rattle.lexeme_laws.proofs.Longest.{lexemes_are_longest}
use Rattle.lexeme_laws.proofs.laws.lexemes_are_longest.Goals as goal

pub returns : goal.returns
returns c = lexemes_are_longest
