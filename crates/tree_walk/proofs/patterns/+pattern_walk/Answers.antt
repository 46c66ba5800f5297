use Rattle.std.proofs.Common.{◌∙◌, ap, sym}
use Rattle.ml_trees.specs.View.{view_pat, view_pat_field, pats, pat_fields}
use Rattle.tree_events.specs.Told.{pat_told, pats_told, pat_fields_told}
use Rattle.tree_events.proofs.Tells.{told_no_pat, told_more_pat, told_no_pat_field, told_more_pat_field}
use Rattle.ml_trees.specs.Events.{part_ends}
use Rattle.tree_walk.proofs.Loops.{goes_further, is_whole}
use Rattle.tree_walk.proofs.patterns.+pattern_walk.Goals as goal

pub patterns-loop-pat-preserved : goal.patterns-loop-pat-preserved
patterns-loop-pat-preserved g t c =
    let step = g.V.Visitor.step in
    goes_further (λ z ps. pats_told step z c.args.sign ps) pats c.args.list.now c.loop-pat.pat-index c.pat-item.result _ _ _ c.loop-pat-test.true
    c.pat-item.is
    (λ xs. told_more_pat step _ c.args.sign (view_pat c.pat-item.result) (pats xs) ∙ ap (λ z. pats_told step z c.args.sign (pats xs)) (sym
    (c.in_ok-hear-2.ensures ∙ ap (λ z. step z (part_ends c.args.sign)) (c.in_ok-pattern.ensures ∙ ap (λ z. pat_told step z (view_pat
    c.pat-item.result)) c.in_ok-hear.ensures))))
    c.loop-pat.invariant

pub patterns-returns : goal.patterns-returns
patterns-returns g t c =
    let step = g.V.Visitor.step in
    is_whole (λ z ps. pats_told step z c.args.sign ps) pats c.args.list.now c.loop-pat.pat-index _ _ c.loop-pat-test.false (told_no_pat step _
    c.args.sign) c.loop-pat.invariant

pub fields-loop-part-preserved : goal.fields-loop-part-preserved
fields-loop-part-preserved g t c =
    let step = g.V.Visitor.step in
    goes_further (λ z fs. pat_fields_told step z fs) pat_fields c.args.list.now c.loop-part.part-index c.part-item.result _ _ _
    c.loop-part-test.true c.part-item.is
    (λ xs. told_more_pat_field step _ (view_pat_field c.part-item.result) (pat_fields xs) ∙ ap (λ z. pat_fields_told step z (pat_fields xs)) (sym
    c.in_ok-field.ensures))
    c.loop-part.invariant

pub fields-returns : goal.fields-returns
fields-returns g t c =
    let step = g.V.Visitor.step in
    is_whole (λ z fs. pat_fields_told step z fs) pat_fields c.args.list.now c.loop-part.part-index _ _ c.loop-part-test.false (told_no_pat_field
    step _) c.loop-part.invariant
