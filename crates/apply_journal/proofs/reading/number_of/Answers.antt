use Rattle.std.proofs.Common.{◌≡◌, ◌∙◌, sym, Ok, arith}
use Rattle.std.proofs.lemmas.Fmt.{parse-decimal}
use Rattle.apply_journal.proofs.Numbers.{begins_decimal, is_decimal}
use Rattle.apply_journal.proofs.Readings.{decimal_utf8}
use Rattle.apply_journal.proofs.reading.number_of.Goals as goal

pub returns-then-not-begins_number-clause-none : goal.returns-then-not-begins_number-clause-none
returns-then-not-begins_number-clause-none c = λ n l e.
    let begins = begins_decimal c.args.word.now n l e in
    let bad = sym c.if-not-begins_number.true ∙ c.begins_number.ensures ∙ begins in
    cc

pub returns-in_default-clause-none : goal.returns-in_default-clause-none
returns-in_default-clause-none c = λ n l e. c.in_default.ensures.cases.0 (decimal_utf8 n c.args.word.now l e)

pub returns-in_default-parse-clause-none : goal.returns-in_default-parse-clause-none
returns-in_default-parse-clause-none c = λ n l e.
    let read : c.parse.result ≡ Ok n = parse-decimal 32 n c.in-Ok.text.now c.parse.result l (omega (arith, l))
    (c.in-Ok.ensures.cases.0 ∙ e) c.parse.ensures.value.0 in
    let failed = c.in_default-parse.is in
    cc

pub returns-clause-read : goal.returns-clause-read
returns-clause-read c = is_decimal c.args.word.now c.in-Ok.text.now c.in-Ok-parse.number c.in-Ok.ensures.cases.0
    (sym c.begins_number.ensures ∙ c.if-not-begins_number.false) c.in-Ok-parse.ensures.value.0
