use Rattle.std.proofs.Common.{◌≡◌, take}
use Rattle.explain.specs.Targets.{dotted_words}
use Rattle.explain.proofs.targets.dotted_words.Given as goal

-- the names so far
abbrev pub invariant-loop-at : goal.invariant-loop-at
invariant-loop-at l = l.text.items ≡ dotted_words (take l.at l.names)
