use Rattle.project_reading.proofs.OneReading.{one_project, one_refusal, read_or_refused}
use Rattle.project_reading.proofs.laws.one_reading.Goals as goal

pub returns : goal.returns
returns c = record { project = one_project; refusal = one_refusal; apart = read_or_refused }
