use Rattle.ladder_laws.proofs.Ladder as proof
use Rattle.ladder_laws.proofs.laws.projects_are_decided.Goals as goal

pub returns : goal.returns
returns c = proof.project_decided
