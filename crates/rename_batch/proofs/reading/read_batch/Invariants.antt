use Rattle.std.proofs.Common.{length}
use Rattle.rotor_base.specs.Lines.{feed_lines}
use Rattle.rename_batch.proofs.Readings.{IsRead}
use Rattle.rename_batch.proofs.reading.read_batch.Given as goal

-- the lines so far are the steps so far, and the rest has the other lines
abbrev pub invariant-loop-line : goal.invariant-loop-line
invariant-loop-line l = IsRead (feed_lines l.bytes) (feed_lines l.rest) l.steps.items

abbrev pub decreases-loop-line : goal.decreases-loop-line
decreases-loop-line l = length l.rest
