use Rattle.std.proofs.Common.{◌≡◌, ◌∙◌, Bor, Option, IfOk, ap, string_bytes, subst, sym}
use Rattle.std.specs.Option.{option_copied}
use Rattle.open_documents.specs.Documents.{DocumentMap, documents}
use Rattle.open_documents.specs.declared.documents.Documents.{Documents}
use Rattle.open_documents.specs.Workspace.{documents_in, documents_or_none}
use Rattle.requests.specs.Asked.{query_words}
use Rattle.document_answers.specs.Replies.{RepliesIn}
use Rattle.document_answers.proofs.answers.DocumentAnswers.answer_in_folder.Goals as goal

pub returns-in-Some-clause-reply : goal.returns-in-Some-clause-reply
returns-in-Some-clause-reply g c =
    let folder = string_bytes c.args.file.now.folder in
    let same : documents c.in-Some.held.now ≡ documents_in c.args.workspace.now folder
    = ap (λ (o : Option (Bor Documents)). documents_or_none (option_copied o)) (sym c.in-Some.is) ∙ c.folder.ensures
    ∙ ap (documents_in c.args.workspace.now) c.as_str.ensures.value in
    subst (λ (m : DocumentMap). IfOk c.answer_in_documents.result
    (RepliesIn (g.F.Folders.content c.args.self.now.folders folder) c.args.client folder m
    (string_bytes c.args.file.now.name) c.args.position (query_words c.args.query))) same c.answer_in_documents.ensures.reply

pub returns-in-None-clause-reply : goal.returns-in-None-clause-reply
returns-in-None-clause-reply g c =
    let folder = string_bytes c.args.file.now.folder in
    let same : documents c.new-held.result ≡ documents_in c.args.workspace.now folder
    = c.new-held.ensures ∙ ap (λ (o : Option (Bor Documents)). documents_or_none (option_copied o)) (sym c.in-None.is) ∙ c.folder.ensures
    ∙ ap (documents_in c.args.workspace.now) c.as_str.ensures.value in
    subst (λ (m : DocumentMap). IfOk c.answer_in_documents-in-None.result
    (RepliesIn (g.F.Folders.content c.args.self.now.folders folder) c.args.client folder
    m (string_bytes c.args.file.now.name) c.args.position (query_words c.args.query))) same c.answer_in_documents-in-None.ensures.reply
