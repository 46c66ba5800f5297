use Rattle.std.proofs.Common.{◌≡◌, ℕ, ◌<◌, ◌≤◌, length, get_or, map, take}
use Rattle.text_places.specs.Marks.{last_upto, position_of}
use Rattle.text_places.specs.Stops.{IsWithin, marks_at}
use Rattle.text_places.proofs.walk.positions_of.Given as goal

-- The stop is not behind the offsets that are left, which have the same positions from it on. Those before have theirs.
abbrev pub invariant-loop-offset : goal.invariant-loop-offset
invariant-loop-offset l = record {
  within : IsWithin l.bytes l.stop;
  before : (k : ℕ) → l.offset-index ≤ k → k < length l.offsets → l.stop.at ≤ get_or l.offsets k 0;
  same : (k : ℕ) → l.offset-index ≤ k → k < length l.offsets
      → position_of l.counting (get_or l.offsets k 0) l.bytes ≡ last_upto (get_or l.offsets k 0) l.stop.here (marks_at l.counting l.bytes l.stop);
  positions : l.positions.items ≡ map (λ offset. position_of l.counting offset l.bytes) (take l.offset-index l.offsets);
}
