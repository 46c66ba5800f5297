use Rattle.valid_renamings.proofs.Back as proof
use Rattle.valid_renamings.proofs.laws.no_change_is_valid.Goals as goal

pub returns : goal.returns
returns c = proof.nothing_is_valid
