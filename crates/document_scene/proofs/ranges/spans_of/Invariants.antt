use Rattle.std.proofs.Common.{◌≡◌, map, slice_get, take}
use Rattle.value_at.specs.declared.footprint_places.ValuePlace.{ValuePlace}
use Rattle.document_scene.specs.Places.{span_among}
use Rattle.document_scene.specs.Scene.{view_scene}
use Rattle.document_scene.proofs.ranges.spans_of.Given as goal

-- the spans so far
abbrev pub invariant-loop-place : goal.invariant-loop-place
invariant-loop-place l =
    l.spans.items
    ≡ map (λ (place : ValuePlace). span_among (slice_get (view_scene l.scene).cuts place.at.file) place.at.token) (take l.place-index l.places)
