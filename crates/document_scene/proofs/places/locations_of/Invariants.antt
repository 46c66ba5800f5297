use Rattle.std.proofs.Common.{◌≡◌, take, map}
use Rattle.document_scene.specs.Places.{location_at, location_words}
use Rattle.document_scene.specs.Scene.{view_scene}
use Rattle.document_scene.proofs.places.locations_of.Given as goal

-- the locations of the places so far
abbrev pub invariant-loop-at : goal.invariant-loop-at
invariant-loop-at l =
    map location_words l.locations.items ≡ map (λ q. location_at (view_scene l.scene) q.at) (take l.at l.wanted.items)
