use Rattle.std.proofs.Common.{map, string_bytes}
use Rattle.report.proofs.Floats.{data_plain, ended_text}
use Rattle.report.proofs.compact.json.Goals as goal

pub returns : goal.returns
returns c = ended_text _ _ _ _ c.in_ok-value.ensures (data_plain (map string_bytes c.args.names.now) c.args.outcome.now) c.in_ok-text.ensures.text
    c.in_ok-push.ensures.items
