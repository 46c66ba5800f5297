use Rattle.std.proofs.Common.{◌∙◌, ap, sym}
use Rattle.ml_trees.specs.View.{view_name, view_names}
use Rattle.tree_events.specs.Told.{names_told}
use Rattle.tree_events.proofs.Tells.{told_names_end, told_names_more}
use Rattle.tree_walk.proofs.Loops.{goes_further, is_whole}
use Rattle.tree_walk.proofs.patterns.names.Goals as goal

pub loop-one-preserved : goal.loop-one-preserved
loop-one-preserved g c =
    let step = g.V.Visitor.step in
    goes_further (λ z ns. names_told step z ns) view_names c.args.list.now c.loop-one.one-index c.one-item.result _ _ _ c.loop-one-test.true
    c.one-item.is
    (λ xs. told_names_more step _ (view_name c.one-item.result) (view_names xs) ∙ ap (λ z. names_told step z (view_names xs)) (sym
    c.in_ok-name.ensures))
    c.loop-one.invariant

pub returns : goal.returns
returns g c =
    let step = g.V.Visitor.step in
    is_whole (λ z ns. names_told step z ns) view_names c.args.list.now c.loop-one.one-index _ _ c.loop-one-test.false (told_names_end step _)
    c.loop-one.invariant
