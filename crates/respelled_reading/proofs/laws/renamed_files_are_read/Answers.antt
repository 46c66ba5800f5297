use Rattle.project_reading.proofs.RespellingKept.{respelling_keeps_the_reading}
use Rattle.respelled_reading.proofs.Renamed as proof
use Rattle.respelled_reading.proofs.laws.renamed_files_are_read.Goals as goal

pub returns : goal.returns
returns c = proof.renamed_files_are_read respelling_keeps_the_reading
