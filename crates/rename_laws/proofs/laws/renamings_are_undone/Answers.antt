use Rattle.rename_laws.proofs.Undone as proof
use Rattle.rename_laws.proofs.laws.renamings_are_undone.Goals as goal

pub returns : goal.returns
returns c = proof.renamings_are_undone
