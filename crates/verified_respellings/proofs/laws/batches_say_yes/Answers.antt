use Rattle.verified_respellings.proofs.Verified as proof
use Rattle.verified_respellings.proofs.laws.batches_say_yes.Goals as goal

pub returns : goal.returns
returns c = proof.batches_say_yes
