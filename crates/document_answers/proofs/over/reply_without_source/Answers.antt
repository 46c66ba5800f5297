use Rattle.lsp_answers.specs.declared.answer.ErrorCode.TheVariants.{Refused}
use Rattle.query_failures.specs.Failure.{IsSaid}
use Rattle.requests.specs.Asked.{query_words}
use Rattle.document_answers.specs.Refused.{lacking_text}
use Rattle.document_answers.proofs.Refusing.{refused_as}
use Rattle.document_answers.proofs.over.reply_without_source.Goals as goal

pub returns-clause-reply : goal.returns-clause-reply
returns-clause-reply c =
    refused_as (query_words c.args.query) (IsSaid Refused (lacking_text c.args.name.now)) c.in_ok-failure.failure c.refused_reply.result
    c.refused_reply.ensures.refused c.in_ok-failure.ensures
