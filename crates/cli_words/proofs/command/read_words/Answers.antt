use Rattle.std.proofs.Common.{◌∙◌, map, string_bytes, sym}
use Rattle.cli_words.specs.Written.{in_words}
use Rattle.cli_words.proofs.Answered.{ok_by, passed, unread, untaken, unwritten, written}
use Rattle.cli_words.proofs.command.read_words.Goals as goal

pub returns-in_err-matches-clause-usage : goal.returns-in_err-matches-clause-usage
returns-in_err-matches-clause-usage c =
    λ e. untaken (map string_bytes c.args.words.now) (c.in_err-matches.ensures.usage (passed c.from_residual.result _ _ c.from_residual.ensures.1 e))

pub returns-in_default-clause-usage : goal.returns-in_default-clause-usage
returns-in_default-clause-usage c = λ e. unread (map string_bytes c.args.words.now) (sym c.in_ok-matches.ensures.ok ∙ sym c.in_default.ensures)

pub returns-then-not-is_written-clause-usage : goal.returns-then-not-is_written-clause-usage
returns-then-not-is_written-clause-usage c = λ e.
    unwritten (map string_bytes c.args.words.now) (in_words c.in-Some.asked) (sym c.in_ok-matches.ensures.ok ∙ sym c.in-Some.ensures)
    (sym c.if-not-is_written.ensures)

pub returns-clause-ok : goal.returns-clause-ok
returns-clause-ok c = ok_by (map string_bytes c.args.words.now) (in_words c.in-Some.asked) c.command_from.result
    (sym c.if-not-is_written.ensures) c.command_from.ensures.ok

pub returns-clause-usage : goal.returns-clause-usage
returns-clause-usage c = λ e. written (map string_bytes c.args.words.now) (in_words c.in-Some.asked) (sym c.if-not-is_written.ensures)
    ∙ c.command_from.ensures.usage e
