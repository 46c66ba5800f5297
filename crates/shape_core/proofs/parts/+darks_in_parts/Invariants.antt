use Rattle.std.proofs.Common.{length}
use Rattle.shape_core.proofs.parts.+darks_in_parts.Given as goal

abbrev pub decreases-darks_in_parts : goal.decreases-darks_in_parts
decreases-darks_in_parts l = length l.parts.now
