use Rattle.capture_check.specs.Fault.{of_ref}
use Rattle.capture_check.proofs.Least.{IsBest}
use Rattle.capture_check.proofs.changes.first_capture.Given as goal

-- the first change among the things so far
abbrev pub invariant-loop-i : goal.invariant-loop-i
invariant-loop-i l = IsBest of_ref l.old l.new l.i l.least
