use Rattle.verified_respellings.proofs.Verified as proof
use Rattle.verified_respellings.proofs.laws.yes_is_an_equivalence.Goals as goal

pub returns-clause-itself : goal.returns-clause-itself
returns-clause-itself c = proof.says_yes_of_itself

pub returns-clause-back : goal.returns-clause-back
returns-clause-back c = proof.yes_goes_back

pub returns-clause-on : goal.returns-clause-on
returns-clause-on c = proof.yes_goes_on
