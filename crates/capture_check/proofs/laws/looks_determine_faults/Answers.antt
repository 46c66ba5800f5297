use Rattle.capture_check.proofs.Told.{looks_determine_faults}
use Rattle.capture_check.proofs.laws.looks_determine_faults.Goals as goal

pub returns : goal.returns
returns c = looks_determine_faults
