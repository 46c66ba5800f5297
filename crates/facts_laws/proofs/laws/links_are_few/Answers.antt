use Rattle.facts_laws.proofs.Few as proof
use Rattle.facts_laws.proofs.laws.links_are_few.Goals as goal

pub returns : goal.returns
returns c = proof.links_are_few
