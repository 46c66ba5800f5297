use Rattle.rename_batch.proofs.Results.{batches_are_one}
use Rattle.rename_batch.proofs.laws.batches_are_one.Goals as goal

pub returns : goal.returns
returns c = batches_are_one c.answers_are_one.ensures.renaming
