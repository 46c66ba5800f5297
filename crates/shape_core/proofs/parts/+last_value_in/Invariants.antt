use Rattle.std.proofs.Common.{length}
use Rattle.shape_core.proofs.parts.+last_value_in.Given as goal

abbrev pub decreases-last_value_in : goal.decreases-last_value_in
decreases-last_value_in l = length l.parts.now
