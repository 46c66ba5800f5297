use Rattle.answer_laws.proofs.Answered as proof
use Rattle.answer_laws.proofs.laws.footprints_are_answered.Goals as goal

pub returns : goal.returns
returns c = proof.footprints_are_answered
