use Rattle.std.proofs.Common.{◌≡◌, drop}
use Rattle.serde_json.specs.Data.{no_members}
use Rattle.serde_json.specs.View.{members_view}
use Rattle.lsp_answers.specs.Json.{changes_members}
use Rattle.lsp_answers.proofs.changes.changes_value.Given as goal

-- with those of the documents that are left, they are all
abbrev pub invariant-loop-document : goal.invariant-loop-document
invariant-loop-document l =
    changes_members (members_view l.members.entries) (drop l.document-index l.documents) ≡ changes_members no_members l.documents
