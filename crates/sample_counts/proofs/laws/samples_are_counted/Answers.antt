use Rattle.sample_counts.proofs.Reports as proof
use Rattle.sample_counts.proofs.laws.samples_are_counted.Goals as goal

pub returns : goal.returns
returns c = proof.samples_are_counted
