use Rattle.report.proofs.Floats.{ended_text, notice_plain}
use Rattle.report.proofs.compact.notice_json.Goals as goal

pub returns : goal.returns
returns c = ended_text _ _ _ _ c.in_ok-value.ensures (notice_plain c.args.notice) c.in_ok-text.ensures.text c.in_ok-push.ensures.items
