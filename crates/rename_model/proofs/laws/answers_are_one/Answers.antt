use Rattle.rename_model.proofs.One.{projects_are_refused_once, targets_have_one_goal, renamings_are_refused_once}
use Rattle.rename_model.proofs.laws.answers_are_one.Goals as goal

pub returns : goal.returns
returns c = record { project = projects_are_refused_once; target = targets_have_one_goal; renaming = renamings_are_refused_once }
