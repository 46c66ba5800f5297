use Rattle.std.proofs.Common.{List, subst}
use Rattle.std.proofs.lemmas.Result.{IfOk-weaker}
use Rattle.ml_trees.specs.View.{view_project}
use Rattle.rotor_base.specs.declared.source.SourceFile.{SourceFile}
use Rattle.lsp_answers.specs.declared.answer.ErrorCode.TheVariants as code
use Rattle.query_failures.specs.Failure.{IsSaid}
use Rattle.editor_renaming.specs.Asked.{IsRenamedTo, name_at}
use Rattle.editor_renaming.specs.declared.asked.EditorRenaming.{EditorRenaming}
use Rattle.document_answers.specs.Refused.{Fails, no_text_text}
use Rattle.document_answers.specs.Renaming.{no_text, refused, renamed}
use Rattle.document_answers.proofs.Declaring.{renamed_to}
use Rattle.document_answers.proofs.Told.{if_ok_both}
use Rattle.document_answers.proofs.renaming.renaming_reply.Goals as goal

pub refused_renaming-requires : goal.refused_renaming-requires
refused_renaming-requires c =
    let a = c.args.around in
    subst (λ (e : EditorRenaming). IsRenamedTo a.scene.counting a.files.now c.args.declared c.args.name.now e) c.in-Refused.is
    (renamed_to a.scene.counting a.files.now (view_project a.read.now.project) c.args.place c.args.declared c.args.name.now c.in_ok-answer.answer
    c.requires.known.kept.sound c.requires.value c.in_ok-answer.ensures)

pub unreachable-requires : goal.unreachable-requires
unreachable-requires c =
    let a = c.args.around in
    subst (λ (e : EditorRenaming). IsRenamedTo a.scene.counting a.files.now c.args.declared c.args.name.now e) c.in-NoValue.is
    (renamed_to a.scene.counting a.files.now (view_project a.read.now.project) c.args.place c.args.declared c.args.name.now c.in_ok-answer.answer
    c.requires.known.kept.sound c.requires.value c.in_ok-answer.ensures)

pub returns-in-Edits-clause-reply : goal.returns-in-Edits-clause-reply
returns-in-Edits-clause-reply c =
    let a = c.args.around in
    let done = subst (λ (e : EditorRenaming). IsRenamedTo a.scene.counting a.files.now c.args.declared c.args.name.now e) c.in-Edits.is
    (renamed_to a.scene.counting a.files.now (view_project a.read.now.project) c.args.place c.args.declared c.args.name.now c.in_ok-answer.answer
    c.requires.known.kept.sound c.requires.value c.in_ok-answer.ensures) in
    IfOk-weaker c.changes_reply.result _ _ (λ reply h. renamed c.in-Edits.done c.in-Edits.edits.items done.0 done.1 h) c.changes_reply.ensures.reply

pub returns-in-NotText-clause-reply : goal.returns-in-NotText-clause-reply
returns-in-NotText-clause-reply c =
    let a = c.args.around in
    let done = subst (λ (e : EditorRenaming). IsRenamedTo a.scene.counting a.files.now c.args.declared c.args.name.now e) c.in-NotText.is
    (renamed_to a.scene.counting a.files.now (view_project a.read.now.project) c.args.place c.args.declared c.args.name.now c.in_ok-answer.answer
    c.requires.known.kept.sound c.requires.value c.in_ok-answer.ensures) in
    IfOk-weaker c.no_text_reply.result _ _ (λ reply h.
    no_text done.0 c.in-NotText.file done.1 done.2
    (subst (λ (s : List SourceFile). Fails (IsSaid code.Refused (no_text_text (name_at s c.in-NotText.file))) reply) c.entries.ensures.entries h))
    c.no_text_reply.ensures.reply

pub returns-in-Refused-clause-reply : goal.returns-in-Refused-clause-reply
returns-in-Refused-clause-reply c =
    if_ok_both c.refused_renaming.result _ _ _ (λ reply is h. refused c.in-Refused.why is h) c.refused_renaming.ensures.refused
    c.refused_renaming.ensures.reply
