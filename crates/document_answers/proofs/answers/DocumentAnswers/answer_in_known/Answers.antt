use Rattle.std.proofs.Common.{◌∙◌, Option, ap, string_bytes, subst}
use Rattle.std.proofs.lemmas.Result.{IfOk-weaker}
use Rattle.tree_io.specs.Outside.{FileMap}
use Rattle.open_documents.specs.Documents.{documents}
use Rattle.open_load.specs.Loaded.{IsOpenFolder}
use Rattle.open_load.specs.declared.loading.OpenFolder.{OpenFolder}
use Rattle.query_failures.specs.Folder.{IsFolderFailure}
use Rattle.requests.specs.Asked.{query_words}
use Rattle.document_answers.specs.Replies.{no_project, project, unread}
use Rattle.document_answers.proofs.Refusing.{refused_as}
use Rattle.document_answers.proofs.answers.DocumentAnswers.answer_in_known.Goals as goal

pub returns-in-Files-clause-reply : goal.returns-in-Files-clause-reply
returns-in-Files-clause-reply g c =
    let held = documents c.args.held.now in
    let there = g.F.Folders.content c.args.self.now.folders (string_bytes c.args.file.now.folder) in
    let same = c.in_ok-folder.ensures ∙ ap (g.F.Folders.content c.args.self.now.folders) c.as_str.ensures.value in
    let is = subst (λ (o : OpenFolder). IsOpenFolder there held o) c.in-Files.is
    (subst (λ (k : Option FileMap). IsOpenFolder k held c.in_ok-opened.opened) same c.in_ok-opened.ensures) in
    IfOk-weaker c.answer_over_files.result _ _ (λ reply h. project c.in-Files.files c.requires is h) c.answer_over_files.ensures.reply

pub returns-in-Unread-clause-reply : goal.returns-in-Unread-clause-reply
returns-in-Unread-clause-reply g c = IfOk-weaker c.unread_reply.result _ _ (λ reply h. unread c.requires h) c.unread_reply.ensures.reply

pub returns-in_ok-failure-in-Refused-clause-reply : goal.returns-in_ok-failure-in-Refused-clause-reply
returns-in_ok-failure-in-Refused-clause-reply g c =
    let held = documents c.args.held.now in
    let there = g.F.Folders.content c.args.self.now.folders (string_bytes c.args.file.now.folder) in
    let same = c.in_ok-folder.ensures ∙ ap (g.F.Folders.content c.args.self.now.folders) c.as_str.ensures.value in
    let is = subst (λ (o : OpenFolder). IsOpenFolder there held o) c.in-Refused.is
    (subst (λ (k : Option FileMap). IsOpenFolder k held c.in_ok-opened.opened) same c.in_ok-opened.ensures) in
    no_project c.in-Refused.why c.in-Refused.message c.requires is
    (refused_as (query_words c.args.query) (IsFolderFailure c.in-Refused.why c.in-Refused.message) c.in_ok-failure-in-Refused.failure
    c.refused_reply.result
    c.refused_reply.ensures.refused c.in_ok-failure-in-Refused.ensures)
