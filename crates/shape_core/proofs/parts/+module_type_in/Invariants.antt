use Rattle.std.proofs.Common.{length}
use Rattle.shape_core.proofs.parts.+module_type_in.Given as goal

abbrev pub decreases-module_type_in : goal.decreases-module_type_in
decreases-module_type_in l = length l.parts.now
