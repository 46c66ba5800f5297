use Rattle.command_answers.proofs.Verdicts as proof
use Rattle.command_answers.proofs.laws.verdicts_are_answered.Goals as goal

pub returns : goal.returns
returns c = proof.verdicts_are_answered
