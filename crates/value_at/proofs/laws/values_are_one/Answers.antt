use Rattle.value_at.proofs.Uses.{values_are_one}
use Rattle.value_at.proofs.laws.values_are_one.Goals as goal

pub returns : goal.returns
returns c = values_are_one
