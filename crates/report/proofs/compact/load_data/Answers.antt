use Rattle.report.specs.Json.{notice_data}
use Rattle.report.proofs.Floats.{notice_plain, value_plain}
use Rattle.report.proofs.compact.load_data.Goals as goal

pub returns-clause-plain : goal.returns-clause-plain
returns-clause-plain c =
    value_plain c.notice_value.result (notice_data c.in_ok-notice.notice) (notice_plain c.in_ok-notice.notice) c.notice_value.ensures
