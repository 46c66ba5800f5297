use Rattle.decided_readings.proofs.Sources as proof
use Rattle.decided_readings.proofs.laws.sources_are_decided.Goals as goal

pub returns : goal.returns
returns c = proof.sources_are_decided
