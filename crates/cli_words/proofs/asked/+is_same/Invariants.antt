use Rattle.std.proofs.Common.{length}
use Rattle.cli_words.proofs.asked.+is_same.Given as goal

-- the words get fewer
abbrev pub decreases-is_same : goal.decreases-is_same
decreases-is_same l = length l.words.now
