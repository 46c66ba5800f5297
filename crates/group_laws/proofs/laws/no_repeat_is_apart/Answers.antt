use Rattle.group_laws.proofs.Apartness.{no_repeat_is_apart}
use Rattle.group_laws.proofs.laws.no_repeat_is_apart.Goals as goal

pub returns : goal.returns
returns c = no_repeat_is_apart
