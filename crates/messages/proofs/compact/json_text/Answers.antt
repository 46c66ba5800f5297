use Rattle.report.proofs.Floats.{ended_text}
use Rattle.messages.proofs.Floats.{messages_plain}
use Rattle.messages.proofs.compact.json_text.Goals as goal

pub returns : goal.returns
returns c = ended_text _ _ _ _ c.in_ok-value.ensures (messages_plain c.args.messages.now) c.in_ok-text.ensures.text c.in_ok-push.ensures.items
