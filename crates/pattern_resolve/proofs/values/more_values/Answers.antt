use Rattle.std.proofs.Common.{◌+◌, ◌∷◌, drop, sym, ap, ◌∙◌, arith}
use Rattle.std.proofs.lemmas.List.{drop_more, drop_all}
use Rattle.ml_trees.specs.declared.expression.Binding.{Binding}
use Rattle.ml_trees.specs.View.{view_binding, bindings}
use Rattle.shape_core.specs.Shape.{◌⊕◌}
use Rattle.shape_core.specs.Node.{entries_of}
use Rattle.binding_model.specs.Scopes.{bound}
use Rattle.binding_model.specs.Variables.{binding_variables, bindings_variables}
use Rattle.name_resolve.proofs.Lemmas.{one_more, joined_none}
use Rattle.pattern_resolve.proofs.values.more_values.Goals as goal

pub loop-part-preserved : goal.loop-part-preserved
loop-part-preserved c =
    let rest = drop (c.loop-part.part-index + 1) c.args.list.now in
    let d = drop_more c.args.list.now c.loop-part.part-index c.part-item.result (omega (arith, c.loop-part-test.true))
    ∙ ap (λ (x : Binding). x ∷ rest) (sym c.part-item.is) in
    one_more c.args.file (entries_of c.loop-part.made.items) (entries_of c.binding_values.new.made.items)
    (binding_variables (view_binding c.part-item.result)) (bindings_variables (bindings rest)) c.in_ok-binding_values.ensures
    ∙ sym (ap (λ l. entries_of c.loop-part.made.items ⊕ bound c.args.file (bindings_variables (bindings l))) d) ∙ c.loop-part.invariant

pub returns : goal.returns
returns c =
    sym (joined_none (entries_of c.loop-part.made.items))
    ∙ sym (ap (λ l. entries_of c.loop-part.made.items ⊕ bound c.args.file (bindings_variables (bindings l)))
    (drop_all c.loop-part.part-index c.args.list.now (omega (arith, c.loop-part-test.false)))) ∙ c.loop-part.invariant
