use Rattle.std.proofs.Common.{◌≡◌, ◌==◌, ◌++◌, length}
use Rattle.std.specs.List.{slice_split}
use Rattle.cli_words.proofs.target.parts.Given as goal

-- the names so far and the parts of the rest are the parts of the word
abbrev pub invariant-loop-part : goal.invariant-loop-part
invariant-loop-part l = l.names ++ slice_split (λ b. b == 46) l.rest ≡ slice_split (λ b. b == 46) l.word

abbrev pub decreases-loop-part : goal.decreases-loop-part
decreases-loop-part l = length l.rest
