use Rattle.rename_parts.specs.Leasts.{IsLeastOrNone}
use Rattle.rename_verify.proofs.Least.{AmongBelow}
use Rattle.rename_verify.proofs.fixed.find_least_among.Given as goal

-- the least of those so far
abbrev pub invariant-loop-change : goal.invariant-loop-change
invariant-loop-change l = IsLeastOrNone (AmongBelow l.fixed l.changes l.change-index) l.least
