use Rattle.ml_syntax.proofs.SiteWords.{sites_are_words, no_site_opens_a_quoted}
use Rattle.ml_syntax.proofs.laws.sites_are_words.Goals as goal

pub returns-clause-words : goal.returns-clause-words
returns-clause-words c = sites_are_words

pub returns-clause-quoted : goal.returns-clause-quoted
returns-clause-quoted c = no_site_opens_a_quoted
