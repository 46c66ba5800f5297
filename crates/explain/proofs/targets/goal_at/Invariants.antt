use Rattle.std.proofs.Common.{◌≡◌, drop}
use Rattle.binding_model.specs.Renaming.{goal_at}
use Rattle.explain.proofs.targets.goal_at.Given as goal

-- what is left decides
abbrev pub invariant-loop-reference : goal.invariant-loop-reference
invariant-loop-reference l = goal_at (drop l.reference-index l.refs) l.at ≡ goal_at l.refs l.at
