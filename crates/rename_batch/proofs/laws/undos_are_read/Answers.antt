use Rattle.rename_batch.proofs.Printed.{undos_are_read}
use Rattle.rename_batch.proofs.laws.undos_are_read.Goals as goal

pub returns : goal.returns
returns c = undos_are_read c.renamings_rewrite.ensures c.undos_have_places.ensures
