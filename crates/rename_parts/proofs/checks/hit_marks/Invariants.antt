use Rattle.std.proofs.Common.{◌≡◌, take}
use Rattle.rename_parts.specs.Hits.{all_hits}
use Rattle.rename_parts.proofs.checks.hit_marks.Given as goal

-- what is at the places so far
abbrev pub invariant-loop-place : goal.invariant-loop-place
invariant-loop-place l = l.list.items ≡ all_hits (take l.place-index l.places) l.placed
