-- The replies to a query over the files of a folder (own).
use Rattle.std.specs.Prelude.{Result, string_bytes}
use Rattle.rotor_base.specs.Files.{FileSet}
use Rattle.open_documents.specs.Documents.{documents}
use Rattle.lsp_answers.specs.declared.answer.Answer.{Answer}
use Rattle.lsp_answers.specs.declared.answer.Failure.{Failure}
use Rattle.requests.specs.Asked.{query_words}
use Rattle.document_answers.specs.Over.{RepliesOver}
use Rattle.document_answers.specs.declared.over.Asked.{Asked}

-- the reply to what is asked, over these files
abbrev pub RepliesTo : Asked → FileSet → Result Answer Failure → Type 0
RepliesTo a files reply =
    RepliesOver a.client (string_bytes a.file.now.folder) (documents a.held.now) (string_bytes a.file.now.name) files a.position (query_words a.query)
    reply
