use Rattle.rename_parts.specs.Leasts.{IsLeastOrNone}
use Rattle.rename_parts.proofs.Hitting.{PunBelow}
use Rattle.rename_parts.proofs.checks.find_least_pun.Given as goal

-- the least among those so far
abbrev pub invariant-loop-mark : goal.invariant-loop-mark
invariant-loop-mark l = IsLeastOrNone (PunBelow l.mark-index l.marks) l.least
