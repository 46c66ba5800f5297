use Rattle.std.proofs.Common.{◌≡◌, drop}
use Rattle.ml_trees.specs.View.{locals}
use Rattle.tree_events.specs.Told.{locals_told}
use Rattle.tree_walk.proofs.locals.+local_walk.Given as goal

abbrev pub invariant-arguments-loop-part : goal.invariant-arguments-loop-part
invariant-arguments-loop-part g l =
    locals_told g.V.Visitor.step (g.V.Visitor.state l.visitor) (locals (drop l.part-index l.list))
    ≡ locals_told g.V.Visitor.step (g.V.Visitor.state l.fn.visitor) (locals l.list)
