use Rattle.name_tables.specs.Names.{at}
use Rattle.capture_check.specs.Named.{named}
use Rattle.capture_check.proofs.Groups.{Scans}
use Rattle.capture_check.proofs.repeats.repeat_in.Given as goal

-- the table has the least of the places so far, and this is the first repeat among them
abbrev pub invariant-loop-place : goal.invariant-loop-place
invariant-loop-place l = Scans (named l.names) l.group l.place-index (at l.seen) l.least
