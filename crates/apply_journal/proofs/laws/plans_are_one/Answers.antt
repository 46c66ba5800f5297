use Rattle.apply_journal.proofs.Plans.{plans_one}
use Rattle.apply_journal.proofs.Stops.{recovered_one}
use Rattle.apply_journal.proofs.laws.plans_are_one.Goals as goal

pub returns-clause-plans : goal.returns-clause-plans
returns-clause-plans c = plans_one

pub returns-clause-recovered : goal.returns-clause-recovered
returns-clause-recovered c = recovered_one
