use Rattle.command_answers.proofs.Batches as proof
use Rattle.command_answers.proofs.laws.batches_are_answered.Goals as goal

pub returns : goal.returns
returns c = proof.batches_are_answered
