use Rattle.std.proofs.Common.{◌≡◌, ℕ, ◌-◌, ◌≤◌, length}
use Rattle.text_places.specs.Marks.{last_upto}
use Rattle.text_places.specs.Stops.{IsWithin, marks_at}
use Rattle.text_places.proofs.walk.go_forward.Given as goal

abbrev pub decreases-loop-front : goal.decreases-loop-front
decreases-loop-front l = length l.bytes - l.stop.at

-- an offset that is not before the one that is looked for has the same position from the stop on
abbrev pub invariant-loop-front : goal.invariant-loop-front
invariant-loop-front l =
    IsWithin l.bytes l.stop × (l.stop.at ≤ l.offset)
    × ((later : ℕ) → l.offset ≤ later
    → last_upto later l.fn.start.here (marks_at l.counting l.bytes l.fn.start) ≡ last_upto later l.stop.here (marks_at l.counting l.bytes l.stop))
