use Rattle.std.proofs.Common.{subst}
use Rattle.explain.specs.Sources.{SaysSource}
use Rattle.explain.proofs.Saying.{sources_more, sources_none}
use Rattle.explain.proofs.sources.unread_messages.Goals as goal

pub loop-source-init : goal.loop-source-init
loop-source-init c = sources_none c.args.sources.now c.new-messages.result.items c.new-messages.ensures.items

pub loop-source-preserved : goal.loop-source-preserved
loop-source-preserved c =
    sources_more c.args.sources.now c.loop-source.source-index c.source-item.result c.loop-source.messages.items
    c.push_said.new.messages.items c.in_ok-source_message.field-0 c.loop-source-test.true c.in_ok-push_said.ensures c.loop-source.invariant
    (subst (λ s. SaysSource s c.in_ok-source_message.field-0) c.source-item.is c.in_ok-source_message.ensures)
