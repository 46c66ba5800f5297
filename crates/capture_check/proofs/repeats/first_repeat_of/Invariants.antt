use Rattle.capture_check.specs.Named.{named}
use Rattle.capture_check.proofs.Twice.{IsBestPair}
use Rattle.capture_check.proofs.Groups.{Below}
use Rattle.capture_check.proofs.repeats.first_repeat_of.Given as goal

-- the first repeat of the groups so far
abbrev pub invariant-loop-group : goal.invariant-loop-group
invariant-loop-group l = IsBestPair (Below (named l.names) l.groups l.group-index) l.least
