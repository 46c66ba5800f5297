use Rattle.accepted_renamings.proofs.Exactly as proof
use Rattle.accepted_renamings.proofs.laws.members_rename_the_same.Goals as goal

pub returns : goal.returns
returns c = proof.members_rename_the_same
