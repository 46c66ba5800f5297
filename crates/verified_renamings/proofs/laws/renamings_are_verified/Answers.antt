use Rattle.verified_renamings.proofs.Verified as proof
use Rattle.verified_renamings.proofs.laws.renamings_are_verified.Goals as goal

pub returns-clause-respelling : goal.returns-clause-respelling
returns-clause-respelling c = proof.renamings_are_verified

pub returns-clause-verdict : goal.returns-clause-verdict
returns-clause-verdict c = proof.renamings_say_yes
