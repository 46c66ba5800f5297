use Rattle.value_at.proofs.Tokens.{tokens_are_one}
use Rattle.value_at.proofs.laws.tokens_are_one.Goals as goal

pub returns : goal.returns
returns c = tokens_are_one
