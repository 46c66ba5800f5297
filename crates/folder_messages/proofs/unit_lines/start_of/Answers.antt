use Rattle.std.proofs.Common.{◌≡◌, ◌∙◌, arith, length, sym}
use Rattle.folder_messages.proofs.Lining.{at_end, feed_step, plain_step}
use Rattle.folder_messages.proofs.unit_lines.start_of.Goals.{then-byte-eq10, else-byte-eq10}
use Rattle.folder_messages.proofs.unit_lines.start_of.Goals as goal

pub loop-at-preserved : goal.loop-at-preserved
loop-at-preserved c =
    elim c.if-byte-eq10.branch [
      | then-byte-eq10 w ↦ feed_step c.args.before c.loop-at.left c.if-byte-eq10.left c.loop-at.at c.args.bytes.now c.loop-at-test.true
          c.if-left-eq0.false w.if-byte-eq10.true w.left-is c.loop-at.invariant
      | else-byte-eq10 w ↦ plain_step c.args.before c.loop-at.left c.if-byte-eq10.left c.loop-at.at c.args.bytes.now c.loop-at-test.true
          c.if-left-eq0.false w.if-byte-eq10.false w.left-is c.loop-at.invariant
    ]

pub returns-clause-at : goal.returns-clause-at
returns-clause-at c =
    let all : length c.args.bytes.now ≡ c.loop-at.at = omega (arith, c.loop-at-test.false, c.loop-at.auto.at-end) in
    all ∙ sym (at_end c.loop-at.left c.loop-at.at c.args.bytes.now c.loop-at-test.false) ∙ c.loop-at.invariant
