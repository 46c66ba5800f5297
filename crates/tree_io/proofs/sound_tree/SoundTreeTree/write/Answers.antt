use Rattle.std.proofs.Common.{refl}
use Rattle.tree_io.proofs.sound_tree.SoundTreeTree.write.Goals as goal

pub put-requires-clause-fits : goal.put-requires-clause-fits
put-requires-clause-fits c = c.requires.fits _ refl
