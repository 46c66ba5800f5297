use Rattle.accepted_renamings.proofs.Twice as proof
use Rattle.accepted_renamings.proofs.laws.renamed_twice.Goals as goal

pub returns : goal.returns
returns c = record { once = proof.twice_is_once; twice = proof.once_is_twice }
