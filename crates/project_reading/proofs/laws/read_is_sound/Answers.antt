use Rattle.project_reading.proofs.Soundness as proof
use Rattle.project_reading.proofs.laws.read_is_sound.Goals as goal

pub returns : goal.returns
returns c = proof.read_is_sound
