use Rattle.std.proofs.Common.{◌<◌, ◌≡◌, IfOk, Some, length, string_bytes, subst, sym}
use Rattle.rotor_base.specs.Files.{FileSet}
use Rattle.open_documents.specs.Documents.{documents}
use Rattle.rename_files.specs.Answer.{Rejects}
use Rattle.rename_model.specs.Target.{number_of}
use Rattle.rename_project.specs.Steps.{IsRefusedFor}
use Rattle.requests.specs.Asked.{query_words}
use Rattle.document_answers.specs.Asked.{RepliesTo}
use Rattle.document_answers.proofs.Told.{over_rejected}
use Rattle.document_answers.proofs.over.answer_over_source.Goals as goal

pub answer_over_kept-requires-clause-number : goal.answer_over_kept-requires-clause-number
answer_over_kept-requires-clause-number c =
    subst (λ (f : FileSet). number_of f.entries (string_bytes c.args.asked.file.now.name) ≡ Some c.args.number) (sym c.in-Ok.ensures.kept)
    c.requires.number

pub answer_over_kept-requires-clause-within : goal.answer_over_kept-requires-clause-within
answer_over_kept-requires-clause-within c =
    subst (λ (f : FileSet). c.args.number < length f.entries) (sym c.in-Ok.ensures.kept) c.requires.within

pub returns-in_ok-kept-in-Ok-clause-reply : goal.returns-in_ok-kept-in-Ok-clause-reply
returns-in_ok-kept-in-Ok-clause-reply c =
    subst (λ (f : FileSet). RepliesTo c.args.asked f c.in_ok-kept-in-Ok.reply) c.in-Ok.ensures.kept c.in_ok-kept-in-Ok.ensures.reply

pub rejected_reply-requires : goal.rejected_reply-requires
rejected_reply-requires c =
    subst (λ (f : FileSet). IsRefusedFor (Rejects f) c.in-Err.refused.why) (sym c.in-Err.ensures.files) c.in-Err.ensures.refused

pub returns-in-Err-clause-reply : goal.returns-in-Err-clause-reply
returns-in-Err-clause-reply c =
    subst (λ (f : FileSet). IfOk c.rejected_reply.result (RepliesTo c.args.asked f)) c.in-Err.ensures.files
    (over_rejected c.args.asked.client (string_bytes c.args.asked.file.now.folder) (documents c.args.asked.held.now)
    (string_bytes c.args.asked.file.now.name) c.in-Err.refused.files c.args.asked.position (query_words c.args.asked.query) c.in-Err.refused.why
    c.rejected_reply.result c.rejected_reply.ensures.rejected c.rejected_reply.ensures.reply)
