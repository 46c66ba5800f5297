use Rattle.std.proofs.Common.{◌<◌, length}
use Rattle.rotor_base.specs.Lines.{feed_lines}
use Rattle.line_stretches.proofs.Walking.{HasPassed}
use Rattle.line_stretches.proofs.line.line_stretch.Given as goal

-- the lines so far are passed, and the line is none of them
abbrev pub invariant-loop-line : goal.invariant-loop-line
invariant-loop-line l = HasPassed (feed_lines l.bytes) l.rest l.before l.start × (0 < l.number → l.before < l.number)

abbrev pub decreases-loop-line : goal.decreases-loop-line
decreases-loop-line l = length l.rest
