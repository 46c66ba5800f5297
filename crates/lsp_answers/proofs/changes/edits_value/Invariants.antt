use Rattle.std.proofs.Common.{◌≡◌, map, take}
use Rattle.serde_json.specs.View.{view}
use Rattle.lsp_answers.specs.Json.{edit_data}
use Rattle.lsp_answers.proofs.changes.edits_value.Given as goal

-- those so far
abbrev pub invariant-loop-edit : goal.invariant-loop-edit
invariant-loop-edit l = map view l.items.items ≡ map edit_data (take l.edit-index l.edits)
