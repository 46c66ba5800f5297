use Rattle.verified_respellings.proofs.Verified as proof
use Rattle.verified_respellings.proofs.laws.valid_renamings_are_verified.Goals as goal

pub returns-clause-respelling : goal.returns-clause-respelling
returns-clause-respelling c = proof.validly_renamed_are_verified

pub returns-clause-renamed : goal.returns-clause-renamed
returns-clause-renamed c = proof.verified_are_validly_renamed
