use Rattle.std.proofs.Common.{◌≡◌, ◌==◌, take, filter}
use Rattle.document_scene.proofs.places.places_in.Given as goal

-- those so far
abbrev pub invariant-loop-place : goal.invariant-loop-place
invariant-loop-place l = l.here.items ≡ filter (λ q. q.at.file == l.file) (take l.place-index l.places)
