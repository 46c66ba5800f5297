use Rattle.refusal_words.proofs.Cuts.{cuts_more}
use Rattle.refusal_words.proofs.cutting.cut_sources.Goals as goal

pub loop-source-preserved : goal.loop-source-preserved
loop-source-preserved c =
    cuts_more c.args.sources.now c.loop-source.source-index c.source-item.result c.loop-source.cuts.items c.push.new.self.items
    c.in_ok-cut_source.field-0 c.loop-source-test.true c.source-item.is c.in_ok-push.ensures.items c.loop-source.invariant
    c.in_ok-cut_source.ensures
