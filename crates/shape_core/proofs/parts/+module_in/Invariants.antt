use Rattle.std.proofs.Common.{length}
use Rattle.shape_core.proofs.parts.+module_in.Given as goal

abbrev pub decreases-module_in : goal.decreases-module_in
decreases-module_in l = length l.parts.now
