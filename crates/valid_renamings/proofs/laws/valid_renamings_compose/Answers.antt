use Rattle.valid_renamings.proofs.Together as proof
use Rattle.valid_renamings.proofs.laws.valid_renamings_compose.Goals as goal

pub returns : goal.returns
returns c = record { valid = proof.valids_compose; same = proof.valids_are_one }
