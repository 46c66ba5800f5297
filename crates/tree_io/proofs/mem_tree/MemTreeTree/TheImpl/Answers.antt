use Rattle.std.proofs.Common.{refl}
use Rattle.tree_io.proofs.mem_tree.MemTreeTree.TheImpl.Goals as goal

pub write-asks : goal.write-asks
write-asks c = record { fits = c.requires.fits _ refl; placed = c.requires.placed _ refl }
