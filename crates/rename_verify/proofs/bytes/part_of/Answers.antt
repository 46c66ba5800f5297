use Rattle.std.proofs.Common.{arith}
use Rattle.rename_verify.proofs.Parting.{parts_here, same_more}
use Rattle.rename_verify.proofs.bytes.part_of.Goals as goal

pub returns-then-old-at-clause-part : goal.returns-then-old-at-clause-part
returns-then-old-at-clause-part c =
    parts_here c.args.old.now c.args.new.now c.loop-at.at 0 0 (omega arith) (omega arith) c.if-old-at.true c.loop-at.invariant

pub loop-at-preserved : goal.loop-at-preserved
loop-at-preserved c = same_more c.args.old.now c.args.new.now c.loop-at.at 0 0 (omega arith) (omega arith) c.if-old-at.false c.loop-at.invariant
