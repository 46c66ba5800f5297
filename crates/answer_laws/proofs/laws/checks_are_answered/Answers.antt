use Rattle.answer_laws.proofs.Answered as proof
use Rattle.answer_laws.proofs.laws.checks_are_answered.Goals as goal

pub returns : goal.returns
returns c = proof.checks_are_answered
