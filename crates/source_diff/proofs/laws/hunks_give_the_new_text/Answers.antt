use Rattle.source_diff.proofs.Given.{gives_the_new_text}
use Rattle.source_diff.proofs.laws.hunks_give_the_new_text.Goals as goal

pub returns : goal.returns
returns c = gives_the_new_text
