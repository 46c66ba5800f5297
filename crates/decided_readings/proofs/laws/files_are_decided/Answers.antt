use Rattle.decided_readings.proofs.Files as proof
use Rattle.decided_readings.proofs.laws.files_are_decided.Goals as goal

pub returns : goal.returns
returns c = proof.files_are_decided
