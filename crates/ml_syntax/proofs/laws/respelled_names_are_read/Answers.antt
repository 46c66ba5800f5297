use Rattle.ml_syntax.proofs.RespelledNames.{sites_may_become, respelled_names_are_read}
use Rattle.ml_syntax.proofs.laws.respelled_names_are_read.Goals as goal

pub returns-clause-lexemes : goal.returns-clause-lexemes
returns-clause-lexemes c = sites_may_become

pub returns-clause-files : goal.returns-clause-files
returns-clause-files c = respelled_names_are_read
