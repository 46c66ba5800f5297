use Rattle.std.proofs.Common.{◌≡◌, map, take}
use Rattle.serde_json.specs.View.{view}
use Rattle.lsp_answers.specs.Json.{location_data}
use Rattle.lsp_answers.proofs.places.locations_value.Given as goal

-- those so far
abbrev pub invariant-loop-location : goal.invariant-loop-location
invariant-loop-location l = map view l.items.items ≡ map location_data (take l.location-index l.locations)
