use Rattle.unused_names.proofs.Faults as proof
use Rattle.unused_names.proofs.laws.unused_names_are_apart.Goals as goal

pub returns-clause-fault : goal.returns-clause-fault
returns-clause-fault c = proof.unused_takes_nothing

pub returns-clause-facts : goal.returns-clause-facts
returns-clause-facts c = proof.nothing_hidden_stays
