use Rattle.capture_check.proofs.Equal.{no_fault_keeps_facts}
use Rattle.capture_check.proofs.laws.no_fault_keeps_facts.Goals as goal

pub returns : goal.returns
returns c = no_fault_keeps_facts
