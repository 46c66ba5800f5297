use Rattle.group_laws.proofs.Firsts.{no_least_is_none}
use Rattle.group_laws.proofs.laws.no_least_is_none.Goals as goal

pub returns : goal.returns
returns c = no_least_is_none
