use Rattle.facts_laws.proofs.Unrepeated as proof
use Rattle.facts_laws.proofs.laws.good_repeats_none.Goals as goal

pub returns : goal.returns
returns c = proof.good_repeats_none
