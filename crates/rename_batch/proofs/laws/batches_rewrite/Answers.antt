use Rattle.rename_batch.proofs.Rewritten.{batches_rewrite}
use Rattle.rename_batch.proofs.laws.batches_rewrite.Goals as goal

pub returns : goal.returns
returns c = batches_rewrite c.renamings_rewrite.ensures
