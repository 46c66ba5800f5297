use Rattle.decided_lists.proofs.Steps as proof
use Rattle.decided_lists.proofs.laws.batch_lines_are_decided.Goals as goal

pub returns : goal.returns
returns c = proof.batch_lines_are_decided
