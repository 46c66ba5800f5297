use Rattle.std.proofs.Common.{◌∙◌}
use Rattle.lsp_answers.specs.declared.answer.ErrorCode.TheVariants.{Refused}
use Rattle.query_failures.proofs.Failing.{said_as}
use Rattle.query_failures.proofs.failure.plain_failure.Goals as goal

pub returns : goal.returns
returns c = said_as Refused c.as_slice.result.now _ c.failure.result (c.as_slice.ensures ∙ c.in_ok-text.ensures) c.failure.ensures
