use Rattle.rename_laws.proofs.Accepted as proof
use Rattle.rename_laws.proofs.laws.renamings_keep_runs.Goals as goal

pub returns : goal.returns
returns c = proof.renamings_keep_runs
