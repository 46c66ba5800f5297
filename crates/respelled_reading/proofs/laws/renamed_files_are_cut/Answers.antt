use Rattle.respelled_reading.proofs.Renamed as proof
use Rattle.respelled_reading.proofs.laws.renamed_files_are_cut.Goals as goal

pub returns : goal.returns
returns c = proof.renamed_files_are_cut
