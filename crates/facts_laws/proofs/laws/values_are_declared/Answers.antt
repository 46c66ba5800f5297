use Rattle.facts_laws.proofs.Declared as proof
use Rattle.facts_laws.proofs.laws.values_are_declared.Goals as goal

pub returns : goal.returns
returns c = proof.values_are_declared
