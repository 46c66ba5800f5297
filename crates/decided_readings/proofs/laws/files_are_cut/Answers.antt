use Rattle.decided_readings.proofs.Cutting as proof
use Rattle.decided_readings.proofs.laws.files_are_cut.Goals as goal

pub returns : goal.returns
returns c = proof.files_are_cut
