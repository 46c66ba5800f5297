-- The texts so far are known.
use Rattle.std.proofs.Common.{◌≡◌, true}
use Rattle.std.specs.List.{list_all}
use Rattle.open_documents.specs.Document.{is_known}
use Rattle.open_documents.proofs.documents.Documents.first_unknown.Given as goal

abbrev pub invariant-loop-name : goal.invariant-loop-name
invariant-loop-name l = list_all (λ e. is_known e.1.now) l.yielded ≡ true
