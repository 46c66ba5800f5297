use Rattle.std.proofs.Common.{subst}
use Rattle.lsp_answers.specs.declared.answer.ErrorCode.TheVariants.{Refused}
use Rattle.query_failures.specs.Failure.{IsSaid}
use Rattle.report.specs.Pieces.{Word}
use Rattle.requests.specs.Asked.{query_words}
use Rattle.document_answers.specs.Refused.{unknown_text}
use Rattle.document_answers.proofs.Refusing.{refused_as}
use Rattle.document_answers.proofs.answers.unknown_reply.Goals as goal

pub returns-clause-reply : goal.returns-clause-reply
returns-clause-reply c =
    refused_as (query_words c.args.query) (IsSaid Refused (unknown_text c.args.name.now)) c.in_ok-failure.failure c.refused_reply.result
    c.refused_reply.ensures.refused
    (subst (λ (w : Word). IsSaid Refused (unknown_text w) c.in_ok-failure.failure) c.as_bytes.ensures.value c.in_ok-failure.ensures)
