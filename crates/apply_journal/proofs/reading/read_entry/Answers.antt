use Rattle.std.proofs.Common.{◌∙◌}
use Rattle.apply_journal.proofs.Readings.{no_text, no_source, no_length, no_content}
use Rattle.apply_journal.proofs.reading.read_entry.Goals as goal

pub returns-in_default-from_utf8-clause-bad : goal.returns-in_default-from_utf8-clause-bad
returns-in_default-from_utf8-clause-bad c =
    λ _. no_text c.args.bytes.now c.in-Some.name.now c.in-Some.rest.now c.in-Some.ensures.found c.in_default-from_utf8.ensures.cases.0

pub returns-then-not-is_source-clause-bad : goal.returns-then-not-is_source-clause-bad
returns-then-not-is_source-clause-bad c = λ _.
    no_source c.args.bytes.now c.in-Some.name.now c.in-Some.rest.now c.as_bytes.result.now c.is_source.result c.in-Some.ensures.found
    (c.as_bytes.ensures.value ∙ c.in-Ok.ensures.cases.0) c.is_source.ensures c.if-not-is_source.true

pub returns-in_default-read_number-clause-bad : goal.returns-in_default-read_number-clause-bad
returns-in_default-read_number-clause-bad c = λ _.
    no_length c.args.bytes.now c.in-Some.name.now c.in-Some.rest.now c.in-Some.ensures.found c.in_default-read_number.ensures.none

pub returns-in_default-cut_behind-clause-bad : goal.returns-in_default-cut_behind-clause-bad
returns-in_default-cut_behind-clause-bad c = λ _.
    no_content c.args.bytes.now c.in-Some.name.now c.in-Some.rest.now c.in-Some-read_number.len c.in-Some-read_number.rest.now c.in-Some.ensures.found
    c.in-Some-read_number.ensures.read c.in_default-cut_behind.ensures.missing
