-- The lines so far are entries, and the rest has the other lines.
use Rattle.std.proofs.Common.{◌+◌, ◌≤◌, length}
use Rattle.rotor_base.specs.Lines.{feed_lines}
use Rattle.project_load.specs.Entries.{table_of}
use Rattle.project_load.proofs.ListLines.{IsSoFar}
use Rattle.project_load.proofs.entries.read_entries.Given as goal

abbrev pub invariant-loop-line : goal.invariant-loop-line
invariant-loop-line l = record {
  within : l.before + length l.rest ≤ 1048576;
  so_far : IsSoFar l.folder (feed_lines l.bytes) (feed_lines l.rest) l.before (table_of l.entries);
}

abbrev pub decreases-loop-line : goal.decreases-loop-line
decreases-loop-line l = length l.rest
