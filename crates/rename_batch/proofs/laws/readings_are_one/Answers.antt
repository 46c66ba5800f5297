use Rattle.rename_batch.proofs.OneReading.{batch_or_bad_line, one_bad_line, one_batch}
use Rattle.rename_batch.proofs.laws.readings_are_one.Goals as goal

pub returns-clause-steps : goal.returns-clause-steps
returns-clause-steps c = one_batch

pub returns-clause-line : goal.returns-clause-line
returns-clause-line c = one_bad_line

pub returns-clause-apart : goal.returns-clause-apart
returns-clause-apart c = batch_or_bad_line
