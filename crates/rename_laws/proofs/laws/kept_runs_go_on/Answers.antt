use Rattle.rename_laws.proofs.GoOn as proof
use Rattle.rename_laws.proofs.laws.kept_runs_go_on.Goals as goal

pub returns : goal.returns
returns c = proof.kept_runs_go_on
