use Rattle.open_world.proofs.Joined as proof
use Rattle.open_world.proofs.laws.outside_may_open.Goals as goal

pub returns-clause-valid : goal.returns-clause-valid
returns-clause-valid c = proof.stays_valid

pub returns-clause-words : goal.returns-clause-words
returns-clause-words c = proof.words_stay
