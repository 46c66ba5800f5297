use Rattle.rename_laws.proofs.Accepted as proof
use Rattle.rename_laws.proofs.laws.footprints_are_least.Goals as goal

pub returns : goal.returns
returns c = proof.footprints_are_least
