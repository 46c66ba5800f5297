use Rattle.std.proofs.Common.{◌≡◌, ◌++◌, map, take}
use Rattle.value_at.specs.Places.{place_as}
use Rattle.value_at.proofs.footprint_places.add_places.Given as goal

abbrev pub invariant-loop-place : goal.invariant-loop-place
invariant-loop-place l = l.list.items ≡ l.initial.list.items ++ map (place_as l.is_declaration) (take l.place-index l.places)
