use Rattle.std.proofs.Common.{◌≡◌, drop}
use Rattle.binding_model.specs.Renaming.{goal_at}
use Rattle.value_at.proofs.value.goal_at.Given as goal

abbrev pub invariant-loop-reference : goal.invariant-loop-reference
invariant-loop-reference l = goal_at (drop l.reference-index l.refs) l.place ≡ goal_at l.refs l.place
