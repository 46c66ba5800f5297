use Rattle.batch_laws.proofs.Valid as proof
use Rattle.batch_laws.proofs.laws.batches_are_valid.Goals as goal

pub returns : goal.returns
returns c = proof.batches_are_valid
