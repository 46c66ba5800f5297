use Rattle.project_load.proofs.OneList.{lists_are_one}
use Rattle.project_load.proofs.laws.lists_are_one.Goals as goal

pub returns : goal.returns
returns c = lists_are_one
