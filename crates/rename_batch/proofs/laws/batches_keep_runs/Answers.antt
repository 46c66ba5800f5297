use Rattle.rename_batch.proofs.Backwards.{batches_keep_runs}
use Rattle.rename_batch.proofs.laws.batches_keep_runs.Goals as goal

pub returns : goal.returns
returns c = batches_keep_runs c.renamings_rewrite.ensures c.renamings_keep_runs.ensures c.kept_runs_go_on.ensures
