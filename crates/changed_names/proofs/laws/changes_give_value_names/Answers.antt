use Rattle.changed_names.proofs.Changes.{changes_are_enough}
use Rattle.changed_names.proofs.laws.changes_give_value_names.Goals as goal

pub returns : goal.returns
returns c = changes_are_enough
