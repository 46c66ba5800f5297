use Rattle.std.proofs.Common.{◌+◌, ◌∷◌, ◌++◌, map, drop, sym, ap, ◌∙◌, true, [], arith}
use Rattle.std.proofs.lemmas.List.{drop_more, drop_all}
use Rattle.ml_trees.specs.declared.word.ValueName.{ValueName}
use Rattle.ml_trees.specs.View.{view_name, view_names}
use Rattle.value_sites.specs.Places.{mark, name_sites}
use Rattle.binding_model.specs.Variables.{names}
use Rattle.binding_model.proofs.Marked.{one_more, nothing_joined}
use Rattle.binding_model.proofs.pattern_variables.add_names.Goals as goal

pub loop-name-preserved : goal.loop-name-preserved
loop-name-preserved c =
    let rest = drop (c.loop-name.name-index + 1) c.args.list.now in
    let d = drop_more c.args.list.now c.loop-name.name-index c.name-item.result (omega (arith, c.loop-name-test.true))
    ∙ ap (λ (x : ValueName). x ∷ rest) (sym c.name-item.is) in
    one_more c.loop-name.marks.items c.add_name.new.marks.items (name_sites [] true (view_name c.name-item.result))
    (names (view_names rest)) c.in_ok-add_name.ensures
    ∙ sym (ap (λ l. c.loop-name.marks.items ++ map mark (names (view_names l))) d) ∙ c.loop-name.invariant

pub returns : goal.returns
returns c =
    sym (nothing_joined c.loop-name.marks.items)
    ∙ sym (ap (λ l. c.loop-name.marks.items ++ map mark (names (view_names l)))
    (drop_all c.loop-name.name-index c.args.list.now (omega (arith, c.loop-name-test.false)))) ∙ c.loop-name.invariant
