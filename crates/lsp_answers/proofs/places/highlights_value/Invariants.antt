use Rattle.std.proofs.Common.{◌≡◌, map, take}
use Rattle.serde_json.specs.View.{view}
use Rattle.lsp_answers.specs.Json.{highlight_data}
use Rattle.lsp_answers.proofs.places.highlights_value.Given as goal

-- those so far
abbrev pub invariant-loop-highlight : goal.invariant-loop-highlight
invariant-loop-highlight l = map view l.items.items ≡ map highlight_data (take l.highlight-index l.highlights)
