use Rattle.std.proofs.Common.{arith}
use Rattle.refusal_places.proofs.Fronts.{front_at_end}
use Rattle.refusal_places.proofs.front.items_end.Goals as goal

pub returns-else-end-tokens-clause-end : goal.returns-else-end-tokens-clause-end
returns-else-end-tokens-clause-end c = front_at_end c.args.kind c.args.tokens.now c.in_ok-end.end c.in_ok-end.ensures (omega arith)
