use Rattle.std.proofs.Common.{◌≡◌, length}
use Rattle.apply_journal.specs.Reading.{AreEntries}
use Rattle.apply_journal.proofs.reading.read_entries.Given as goal

-- the files so far are read, and the rest is behind them
abbrev pub invariant-loop : goal.invariant-loop
invariant-loop l = record {
  count : length l.files.items ≡ l.counter;
  read : AreEntries l.bytes l.files.items l.rest;
}
