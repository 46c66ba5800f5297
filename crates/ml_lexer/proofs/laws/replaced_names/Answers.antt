use Rattle.ml_lexer.proofs.Respelling.{respelled_keep_lexemes}
use Rattle.ml_lexer.proofs.laws.replaced_names.Goals as goal

pub returns : goal.returns
returns c = record { lexemes = respelled_keep_lexemes }
