use Rattle.std.proofs.Common.{◌≡◌, ◌-◌, length}
use Rattle.std.specs.List.{find}
use Rattle.text_places.specs.Marks.{marks, names}
use Rattle.text_places.specs.Stops.{IsWithin, marks_at}
use Rattle.text_places.proofs.walk.offset_of.Given as goal

abbrev pub decreases-loop-front : goal.decreases-loop-front
decreases-loop-front l = length l.bytes - l.stop.at

-- the mark that is looked for is at the stop or behind it
abbrev pub invariant-loop-front : goal.invariant-loop-front
invariant-loop-front l =
    IsWithin l.bytes l.stop
    × (find (names l.position) (marks l.counting l.bytes) ≡ find (names l.position) (marks_at l.counting l.bytes l.stop))
