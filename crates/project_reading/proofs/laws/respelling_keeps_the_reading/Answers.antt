use Rattle.project_reading.proofs.RespellingKept as proof
use Rattle.project_reading.proofs.laws.respelling_keeps_the_reading.Goals as goal

pub returns : goal.returns
returns c = proof.respelling_keeps_the_reading
