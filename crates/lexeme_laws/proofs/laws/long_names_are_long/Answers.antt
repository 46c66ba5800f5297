use Rattle.lexeme_laws.proofs.LongNames.{long_names_are_long, long_words_are_refused}
use Rattle.lexeme_laws.proofs.ShortNames.{marked_words_are_short}
use Rattle.lexeme_laws.proofs.laws.long_names_are_long.Goals as goal

pub returns-clause-long : goal.returns-clause-long
returns-clause-long c = long_names_are_long

pub returns-clause-refused : goal.returns-clause-refused
returns-clause-refused c = long_words_are_refused

pub returns-clause-short : goal.returns-clause-short
returns-clause-short c = marked_words_are_short
