use Rattle.verified_refusals.proofs.Verdicts as proof
use Rattle.verified_refusals.proofs.laws.faults_are_verdicts.Goals as goal

pub returns-clause-verdict : goal.returns-clause-verdict
returns-clause-verdict c = proof.faults_are_verdicts

pub returns-clause-only : goal.returns-clause-only
returns-clause-only c = proof.faults_are_the_only_verdicts

pub returns-clause-files : goal.returns-clause-files
returns-clause-files c = proof.faults_have_files
