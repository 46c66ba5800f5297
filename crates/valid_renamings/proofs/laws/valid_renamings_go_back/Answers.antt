use Rattle.valid_renamings.proofs.Back as proof
use Rattle.valid_renamings.proofs.laws.valid_renamings_go_back.Goals as goal

pub returns : goal.returns
returns c = proof.valid_goes_back
