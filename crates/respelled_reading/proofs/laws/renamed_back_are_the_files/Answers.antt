use Rattle.respelled_reading.proofs.Back as proof
use Rattle.respelled_reading.proofs.laws.renamed_back_are_the_files.Goals as goal

pub returns : goal.returns
returns c = proof.renamed_back_are_the_files
