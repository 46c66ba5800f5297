use Rattle.std.proofs.Common.{length}
use Rattle.messages.proofs.words.«+add_grouped».Given as goal

abbrev pub decreases-add_grouped : goal.decreases-add_grouped
decreases-add_grouped c = length c.digits.now
