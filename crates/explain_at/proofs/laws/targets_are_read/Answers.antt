use Rattle.explain_at.proofs.Reading.{all_are_read}
use Rattle.explain_at.proofs.laws.targets_are_read.Goals as goal

pub returns : goal.returns
returns c = all_are_read
