use Rattle.accepted_renamings.proofs.GoOn as proof
use Rattle.accepted_renamings.proofs.laws.renamings_go_on.Goals as goal

pub returns : goal.returns
returns c = record { accepted = proof.accepted_are_valid; further = proof.valid_renamings_go_on }
