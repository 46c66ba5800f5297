use Rattle.ladder_laws.proofs.BinderLadder as proof
use Rattle.ladder_laws.proofs.laws.renamings_are_decided.Goals as goal

pub returns : goal.returns
returns c = proof.binder_decided
