use Rattle.rename_laws.proofs.Accepted as proof
use Rattle.rename_laws.proofs.laws.renamings_are_valid.Goals as goal

pub returns : goal.returns
returns c = proof.renamings_are_valid
