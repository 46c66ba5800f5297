use Rattle.apply_journal.proofs.Stops.{stopped_safe, whole_safe, stopped_again, whole_again}
use Rattle.apply_journal.proofs.laws.stops_are_recovered.Goals as goal

pub returns-clause-safe : goal.returns-clause-safe
returns-clause-safe c = stopped_safe

pub returns-clause-new : goal.returns-clause-new
returns-clause-new c = whole_safe

pub returns-clause-again : goal.returns-clause-again
returns-clause-again c = stopped_again

pub returns-clause-whole : goal.returns-clause-whole
returns-clause-whole c = whole_again
