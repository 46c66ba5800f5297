use Rattle.decided_lists.proofs.Lists as proof
use Rattle.decided_lists.proofs.laws.lists_are_answered.Goals as goal

pub returns : goal.returns
returns c = proof.lists_are_answered
