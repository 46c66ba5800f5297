use Rattle.apply_journal.proofs.Readings.{wrong_title, wrong_count}
use Rattle.apply_journal.proofs.reading.read_head.Goals as goal

pub returns-then-ne-clause-none : goal.returns-then-ne-clause-none
returns-then-ne-clause-none c = wrong_title c.args.bytes.now c.in_ok-title.title.now c.in_ok-title.rest.now c.ne.result c.in_ok-title.ensures.found
    c.ne.ensures c.if-ne.true

pub returns-then-ne-2-clause-none : goal.returns-then-ne-2-clause-none
returns-then-ne-2-clause-none c = wrong_count c.args.bytes.now c.in_ok-title.title.now c.in_ok-title.rest.now c.in_ok-word.word.now
    c.in_ok-word.rest.now c.ne-2.result
    c.in_ok-title.ensures.found c.in_ok-word.ensures.found c.ne-2.ensures c.if-ne-2.true
