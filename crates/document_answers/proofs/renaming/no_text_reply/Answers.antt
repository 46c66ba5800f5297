use Rattle.std.proofs.Common.{subst}
use Rattle.lsp_answers.specs.declared.answer.ErrorCode.TheVariants.{Refused}
use Rattle.query_failures.specs.Failure.{IsSaid}
use Rattle.report.specs.Pieces.{Word}
use Rattle.document_answers.specs.Refused.{no_text_text}
use Rattle.document_answers.proofs.renaming.no_text_reply.Goals as goal

pub returns-clause-reply : goal.returns-clause-reply
returns-clause-reply c =
    subst (λ (w : Word). IsSaid Refused (no_text_text w) c.in_ok-failure.failure) c.name_at.ensures c.in_ok-failure.ensures
