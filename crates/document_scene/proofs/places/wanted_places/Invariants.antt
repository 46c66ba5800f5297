use Rattle.std.proofs.Common.{◌≡◌, take, filter}
use Rattle.document_scene.specs.Places.{is_wanted}
use Rattle.document_scene.proofs.places.wanted_places.Given as goal

-- the wanted ones so far
abbrev pub invariant-loop-place : goal.invariant-loop-place
invariant-loop-place l = l.wanted.items ≡ filter (is_wanted l.with_declarations) (take l.place-index l.places)
