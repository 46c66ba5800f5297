use Rattle.accepted_renamings.proofs.Exactly as proof
use Rattle.accepted_renamings.proofs.laws.accepted_exactly.Goals as goal

pub returns : goal.returns
returns c = proof.accepted_exactly
