use Rattle.refusal_places.proofs.Lets.{let_of_front}
use Rattle.refusal_places.proofs.front.let_before.Goals as goal

pub returns-clause-value : goal.returns-clause-value
returns-clause-value c = let_of_front c.args.tokens.now c.args.end c.last_let.result c.requires c.last_let.ensures.value
