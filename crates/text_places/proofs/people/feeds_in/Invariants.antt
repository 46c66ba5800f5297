use Rattle.std.proofs.Common.{◌≡◌, ◌+◌, ◌≤◌, drop}
use Rattle.text_places.specs.People.{feeds_in}
use Rattle.text_places.proofs.people.feeds_in.Given as goal

-- those so far and those of what is left are all
abbrev pub invariant-loop-byte : goal.invariant-loop-byte
invariant-loop-byte l = record {
  count : l.feeds + feeds_in (drop l.byte-index l.bytes) ≡ feeds_in l.bytes;
  within : l.feeds ≤ l.byte-index;
}
