use Rattle.std.proofs.Common.{◌+◌, ◌∷◌, ◌++◌, map, drop, sym, ap, ◌∙◌, arith}
use Rattle.std.proofs.lemmas.List.{drop_more, drop_all}
use Rattle.ml_trees.specs.declared.pattern.Pat.{Pat}
use Rattle.ml_trees.specs.declared.pattern.PatField.{PatField}
use Rattle.ml_trees.specs.View.{view_pat, view_pat_field, pats, pat_fields}
use Rattle.value_sites.specs.Places.{mark}
use Rattle.binding_model.specs.Variables.{variables, pats_variables, field_variables, fields_variables}
use Rattle.binding_model.proofs.Marked.{one_more, nothing_joined}
use Rattle.binding_model.proofs.pattern_variables.+variables.Goals as goal

pub patterns-loop-part-preserved : goal.patterns-loop-part-preserved
patterns-loop-part-preserved t c =
    let rest = drop (c.loop-part.part-index + 1) c.args.list.now in
    let d = drop_more c.args.list.now c.loop-part.part-index c.part-item.result (omega (arith, c.loop-part-test.true))
    ∙ ap (λ (x : Pat). x ∷ rest) (sym c.part-item.is) in
    one_more c.loop-part.marks.items c.pattern.new.marks.items (variables (view_pat c.part-item.result))
    (pats_variables (pats rest)) c.in_ok-pattern.ensures
    ∙ sym (ap (λ l. c.loop-part.marks.items ++ map mark (pats_variables (pats l))) d) ∙ c.loop-part.invariant

pub patterns-returns : goal.patterns-returns
patterns-returns t c =
    sym (nothing_joined c.loop-part.marks.items)
    ∙ sym (ap (λ l. c.loop-part.marks.items ++ map mark (pats_variables (pats l)))
    (drop_all c.loop-part.part-index c.args.list.now (omega (arith, c.loop-part-test.false)))) ∙ c.loop-part.invariant

pub fields-loop-part-preserved : goal.fields-loop-part-preserved
fields-loop-part-preserved t c =
    let rest = drop (c.loop-part.part-index + 1) c.args.list.now in
    let d = drop_more c.args.list.now c.loop-part.part-index c.part-item.result (omega (arith, c.loop-part-test.true))
    ∙ ap (λ (x : PatField). x ∷ rest) (sym c.part-item.is) in
    one_more c.loop-part.marks.items c.field.new.marks.items (field_variables (view_pat_field c.part-item.result))
    (fields_variables (pat_fields rest)) c.in_ok-field.ensures
    ∙ sym (ap (λ l. c.loop-part.marks.items ++ map mark (fields_variables (pat_fields l))) d) ∙ c.loop-part.invariant

pub fields-returns : goal.fields-returns
fields-returns t c =
    sym (nothing_joined c.loop-part.marks.items)
    ∙ sym (ap (λ l. c.loop-part.marks.items ++ map mark (fields_variables (pat_fields l)))
    (drop_all c.loop-part.part-index c.args.list.now (omega (arith, c.loop-part-test.false)))) ∙ c.loop-part.invariant
