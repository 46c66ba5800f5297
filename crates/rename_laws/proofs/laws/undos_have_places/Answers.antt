use Rattle.rename_laws.proofs.Undone as proof
use Rattle.rename_laws.proofs.laws.undos_have_places.Goals as goal

pub returns : goal.returns
returns c = proof.undos_have_places
