use Rattle.std.proofs.Common.{◌≡◌, drop}
use Rattle.ml_trees.specs.View.{view_names}
use Rattle.tree_events.specs.Told.{names_told}
use Rattle.tree_walk.proofs.patterns.names.Given as goal

abbrev pub invariant-loop-one : goal.invariant-loop-one
invariant-loop-one g l =
    names_told g.V.Visitor.step (g.V.Visitor.state l.visitor) (view_names (drop l.one-index l.list))
    ≡ names_told g.V.Visitor.step (g.V.Visitor.state l.fn.visitor) (view_names l.list)
