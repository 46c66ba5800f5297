use Rattle.std.proofs.Common.{◌≡◌, map, take}
use Rattle.serde_json.specs.View.{view}
use Rattle.lsp_answers.specs.Json.{document_data}
use Rattle.lsp_answers.proofs.changes.versioned_value.Given as goal

-- those so far
abbrev pub invariant-loop-document : goal.invariant-loop-document
invariant-loop-document l = map view l.items.items ≡ map document_data (take l.document-index l.documents)
