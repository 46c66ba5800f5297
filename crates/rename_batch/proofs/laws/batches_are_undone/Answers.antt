use Rattle.rename_batch.proofs.Backwards.{batches_are_undone}
use Rattle.rename_batch.proofs.laws.batches_are_undone.Goals as goal

pub returns : goal.returns
returns c = batches_are_undone c.renamings_rewrite.ensures c.renamings_are_undone.ensures c.undos_have_places.ensures
