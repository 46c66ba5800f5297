use Rattle.accepted_renamings.proofs.Orders as proof
use Rattle.accepted_renamings.proofs.laws.either_order.Goals as goal

pub returns : goal.returns
returns c = proof.either_order
