use Rattle.std.proofs.Common.{◌≡◌, ◌++◌, length, map}
use Rattle.value_at.specs.declared.footprint_places.ValuePlace.{ValuePlace}
use Rattle.document_scene.specs.Places.{range_at}
use Rattle.document_scene.specs.Scene.{view_scene}
use Rattle.document_scene.proofs.ranges.ranges_of_words.Given as goal

-- the ranges so far and those of what is left are all
abbrev pub invariant-loop-rest : goal.invariant-loop-rest
invariant-loop-rest l =
    l.ranges.items ++ map (λ (place : ValuePlace). range_at (view_scene l.scene) place.at) l.rest
    ≡ map (λ (place : ValuePlace). range_at (view_scene l.scene) place.at) l.places

abbrev pub decreases-loop-rest : goal.decreases-loop-rest
decreases-loop-rest l = length l.rest
