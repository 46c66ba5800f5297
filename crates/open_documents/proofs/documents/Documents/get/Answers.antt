use Rattle.std.proofs.Common.{sym, ◌∙◌}
use Rattle.open_documents.proofs.Gathered.{documents_get}
use Rattle.open_documents.proofs.documents.Documents.get.Goals as goal

pub returns : goal.returns
returns c = c.get.ensures.value ∙ sym (documents_get c.args.self.now c.args.name.now)
