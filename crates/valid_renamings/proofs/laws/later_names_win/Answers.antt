use Rattle.valid_renamings.proofs.Later as proof
use Rattle.valid_renamings.proofs.laws.later_names_win.Goals as goal

pub returns : goal.returns
returns c = record { once = proof.twice_is_once; twice = proof.once_is_twice; same = proof.once_is_the_same }
