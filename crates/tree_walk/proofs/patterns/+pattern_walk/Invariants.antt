use Rattle.std.proofs.Common.{◌≡◌, drop}
use Rattle.ml_trees.specs.View.{pats, pat_fields}
use Rattle.tree_events.specs.Told.{pats_told, pat_fields_told}
use Rattle.tree_walk.proofs.patterns.+pattern_walk.Given as goal

abbrev pub invariant-patterns-loop-pat : goal.invariant-patterns-loop-pat
invariant-patterns-loop-pat g l =
    pats_told g.V.Visitor.step (g.V.Visitor.state l.visitor) l.sign (pats (drop l.pat-index l.list))
    ≡ pats_told g.V.Visitor.step (g.V.Visitor.state l.fn.visitor) l.sign (pats l.list)

abbrev pub invariant-fields-loop-part : goal.invariant-fields-loop-part
invariant-fields-loop-part g l =
    pat_fields_told g.V.Visitor.step (g.V.Visitor.state l.visitor) (pat_fields (drop l.part-index l.list))
    ≡ pat_fields_told g.V.Visitor.step (g.V.Visitor.state l.fn.visitor) (pat_fields l.list)
