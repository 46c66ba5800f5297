use Rattle.decided_lists.proofs.Plans as proof
use Rattle.decided_lists.proofs.laws.plans_are_decided.Goals as goal

pub returns : goal.returns
returns c = proof.plans_are_decided
