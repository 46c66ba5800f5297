use Rattle.std.proofs.Common.{◌≡◌, take, map}
use Rattle.document_scene.specs.Places.{highlight_at}
use Rattle.document_scene.specs.Scene.{view_scene}
use Rattle.document_scene.proofs.places.highlights_of.Given as goal

-- the highlights of the places so far
abbrev pub invariant-loop-at : goal.invariant-loop-at
invariant-loop-at l = l.highlights.items ≡ map (highlight_at (view_scene l.scene)) (take l.at l.here.items)
