use Rattle.std.proofs.Common.{inl, inr, arith, ap}
use Rattle.rotor_base.specs.Lines.{feed_lines}
use Rattle.rename_batch.proofs.Readings.{all_read, bad_line, line_read, none_so, some_so}
use Rattle.rename_batch.proofs.reading.read_batch.Goals as goal

pub returns-then-before-eq-MAX_BATCH_LINES-clause-unread : goal.returns-then-before-eq-MAX_BATCH_LINES-clause-unread
returns-then-before-eq-MAX_BATCH_LINES-clause-unread c =
    bad_line (feed_lines c.args.bytes.now) (feed_lines c.loop-line.rest.now) (feed_lines c.in-Some.behind.now) c.loop-line.steps.items
    c.in-Some.line.now c.len-before.result
    c.loop-line.invariant c.in-Some.ensures.line (omega (arith, c.len-before.ensures)) (inr (omega arith))

pub returns-in_default-2-clause-unread : goal.returns-in_default-2-clause-unread
returns-in_default-2-clause-unread c =
    bad_line (feed_lines c.args.bytes.now) (feed_lines c.loop-line.rest.now) (feed_lines c.in-Some.behind.now) c.loop-line.steps.items
    c.in-Some.line.now c.len-before.result
    c.loop-line.invariant c.in-Some.ensures.line (omega (arith, c.len-before.ensures))
    (inl (none_so c.in_ok-step.field-0 _ c.in_ok-step.ensures.none c.in_default-2.is))

pub loop-line-preserved : goal.loop-line-preserved
loop-line-preserved c =
    line_read (feed_lines c.args.bytes.now) (feed_lines c.loop-line.rest.now) (feed_lines c.in-Some.behind.now) c.loop-line.steps.items
    c.push.new.self.items c.in-Some.line.now
    c.in-Some-2.step c.loop-line.invariant c.in-Some.ensures.line (some_so c.in_ok-step.field-0 _ c.in-Some-2.step c.in_ok-step.ensures.step
    c.in-Some-2.is)
    c.in_ok-push.ensures.items (omega (arith, c.len-before.ensures, c.loop-line.invariant.3))

pub returns-clause-steps : goal.returns-clause-steps
returns-clause-steps c =
    all_read (feed_lines c.args.bytes.now) (feed_lines c.loop-line.rest.now) c.loop-line.steps.items c.loop-line.invariant
    (ap feed_lines c.in_default.ensures.end)
