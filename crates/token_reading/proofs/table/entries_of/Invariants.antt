use Rattle.std.proofs.Common.{◌≡◌, ◌≤◌, ◌+◌, length, drop, reverse}
use Rattle.token_reading.specs.Matching.{open_ins}
use Rattle.token_reading.specs.Table.{entries_from}
use Rattle.token_reading.specs.Tokens.{from}
use Rattle.token_reading.proofs.table.entries_of.Given as goal

abbrev pub invariant-loop-at : goal.invariant-loop-at
invariant-loop-at l = record {
  said : reverse l.entries.items ≡ entries_from (l.at + 1) (drop l.at l.tokens);
  free : l.ins ≡ open_ins (from l.tokens l.at);
  few : l.ins + l.at ≤ length l.tokens;
}
