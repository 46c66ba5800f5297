use Rattle.std.proofs.Common.{◌∙◌, sym}
use Rattle.rename_files.specs.Answer.{Rejects}
use Rattle.query_failures.specs.Folder.{IsProjectFailure}
use Rattle.document_answers.proofs.Declaring.{is_met}
use Rattle.document_answers.proofs.Refusing.{refused_by, refused_silently}
use Rattle.document_answers.proofs.over.rejected_reply.Goals as goal

pub returns-in-DocumentHighlight-clause-rejected : goal.returns-in-DocumentHighlight-clause-rejected
returns-in-DocumentHighlight-clause-rejected c =
    is_met (Rejects c.args.files.now) c.args.why.now c.requires (sym c.is_memory.ensures ∙ c.if-is_memory.false)

pub returns-in-DocumentHighlight-clause-reply : goal.returns-in-DocumentHighlight-clause-reply
returns-in-DocumentHighlight-clause-reply c =
    refused_silently c.args.query (IsProjectFailure c.args.files.now c.args.why.now) c.in-DocumentHighlight.is

pub returns-in_ok-project_failure-in_default-clause-rejected : goal.returns-in_ok-project_failure-in_default-clause-rejected
returns-in_ok-project_failure-in_default-clause-rejected c =
    is_met (Rejects c.args.files.now) c.args.why.now c.requires (sym c.is_memory.ensures ∙ c.if-is_memory.false)

pub returns-in_ok-project_failure-in_default-clause-reply : goal.returns-in_ok-project_failure-in_default-clause-reply
returns-in_ok-project_failure-in_default-clause-reply c =
    refused_by c.args.query (IsProjectFailure c.args.files.now c.args.why.now) c.in_ok-project_failure-in_default.field-0
    c.in_default.not-DocumentHighlight
    c.in_ok-project_failure-in_default.ensures
