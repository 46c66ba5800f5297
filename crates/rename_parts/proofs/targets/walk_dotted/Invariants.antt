use Rattle.std.proofs.Common.{◌≡◌, drop}
use Rattle.shape_core.specs.Shape.{entries_in}
use Rattle.rename_model.specs.Target.{dotted}
use Rattle.rename_parts.proofs.targets.walk_dotted.Given as goal

-- what the path names is inside, behind the steps so far
abbrev pub invariant-loop-at : goal.invariant-loop-at
invariant-loop-at l = dotted (entries_in l.inside) (drop l.at l.path) ≡ dotted (entries_in l.fn.shape) l.path
