use Rattle.std.proofs.Common.{◌≡◌, drop, None}
use Rattle.reading_differences.specs.Indexed.{first_place}
use Rattle.reading_differences.proofs.indexed.first_place.Given as goal

-- the first one so far and those that are left decide
abbrev pub invariant-loop-place : goal.invariant-loop-place
invariant-loop-place l = first_place l.first (drop l.place-index l.places) ≡ first_place None l.places
