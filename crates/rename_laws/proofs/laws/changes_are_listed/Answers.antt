use Rattle.rename_laws.proofs.Accepted as proof
use Rattle.rename_laws.proofs.laws.changes_are_listed.Goals as goal

pub returns : goal.returns
returns c = proof.changes_are_listed
