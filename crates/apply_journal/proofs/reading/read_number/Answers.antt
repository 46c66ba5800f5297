use Rattle.std.proofs.Common.{arith}
use Rattle.apply_journal.proofs.Readings.{if_none, no_read_number, too_great}
use Rattle.apply_journal.proofs.reading.read_number.Goals as goal

pub returns-in_err-number-clause-none : goal.returns-in_err-number-clause-none
returns-in_err-number-clause-none c =
    if_none c.from_residual-in_err-number.result _
    (no_read_number c.args.limit c.args.bytes.now c.in_ok-word.word.now c.in_ok-word.rest.now (omega (arith, c.ranges.limit))
    c.in_ok-word.ensures.found c.in_err-number.ensures.none)

pub returns-then-number-limit-clause-none : goal.returns-then-number-limit-clause-none
returns-then-number-limit-clause-none c =
    too_great c.args.limit c.args.bytes.now c.in_ok-word.word.now c.in_ok-word.rest.now c.in_ok-number.number
    (omega (arith, c.ranges.limit)) c.in_ok-word.ensures.found c.in_ok-number.ensures.read
    c.in_ok-number.ensures.small (omega (arith, c.if-number-limit.true))
