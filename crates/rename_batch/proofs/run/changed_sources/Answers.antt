use Rattle.std.proofs.Common.{arith}
use Rattle.rename_batch.proofs.Changed.{all_changed}
use Rattle.rename_batch.proofs.run.changed_sources.Goals as goal

pub returns : goal.returns
returns c = all_changed c.loop-at.at c.args.olds.now c.args.news.now c.loop-at.changed (omega (arith, c.min-at-end.ensures)) c.loop-at.invariant
