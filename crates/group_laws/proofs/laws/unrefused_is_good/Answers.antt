use Rattle.group_laws.proofs.Apartness.{unrefused_is_good}
use Rattle.group_laws.proofs.laws.unrefused_is_good.Goals as goal

pub returns : goal.returns
returns c = unrefused_is_good
