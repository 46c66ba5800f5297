use Rattle.std.proofs.Common.{◌≡◌, ◌+◌, ◌≤◌, length}
use Rattle.text_places.specs.People.{column_behind}
use Rattle.text_places.proofs.people.column_in.Given as goal

-- the bytes behind what is left are of the last line
abbrev pub invariant-loop-rest : goal.invariant-loop-rest
invariant-loop-rest l = record {
  column : column_behind 1 l.bytes + 1 ≡ column_behind 1 l.rest + l.column;
  within : l.column + length l.rest ≤ length l.bytes + 1;
}

abbrev pub decreases-loop-rest : goal.decreases-loop-rest
decreases-loop-rest l = length l.rest
