use Rattle.std.proofs.Common.{◌∙◌, ap, sym}
use Rattle.ml_trees.specs.View.{view_mod_argument, view_functor_param, view_mod, view_module_name, view_item, view_sig_item, signature}
use Rattle.ml_trees.specs.View.{mod_arguments, functor_params, items, sig_items}
use Rattle.ml_trees.proofs.Variants.{at_item_module}
use Rattle.ml_trees.specs.Events.{scope_begins, scope_ends}
use Rattle.tree_events.specs.Told.{brings_told, mod_told, signature_told, item_told, mod_arguments_told, functor_params_told, items_told}
use Rattle.tree_events.specs.Told.{sig_items_told}
use Rattle.tree_events.proofs.Tells.{told_no_mod_argument, told_more_mod_argument, told_no_functor_param, told_more_functor_param}
use Rattle.tree_events.proofs.Tells.{told_ModuleItem, told_no_item, told_more_item, told_no_sig_item, told_more_sig_item}
use Rattle.tree_walk.proofs.Loops.{goes_further, is_whole, on_ok}
use Rattle.tree_walk.proofs.modules.+module_walk.Goals as goal

pub all_arguments-loop-part-preserved : goal.all_arguments-loop-part-preserved
all_arguments-loop-part-preserved g t c =
    let step = g.V.Visitor.step in
    goes_further (λ z ms. mod_arguments_told step z ms) mod_arguments c.args.list.now c.loop-part.part-index c.part-item.result _ _ _
    c.loop-part-test.true c.part-item.is
    (λ xs. told_more_mod_argument step _ (view_mod_argument c.part-item.result) (mod_arguments xs) ∙ ap (λ z. mod_arguments_told step z
    (mod_arguments xs)) (sym c.in_ok-argument.ensures))
    c.loop-part.invariant

pub all_arguments-returns : goal.all_arguments-returns
all_arguments-returns g t c =
    let step = g.V.Visitor.step in
    is_whole (λ z ms. mod_arguments_told step z ms) mod_arguments c.args.list.now c.loop-part.part-index _ _ c.loop-part-test.false
    (told_no_mod_argument step _) c.loop-part.invariant

pub scope_with-loop-part-preserved : goal.scope_with-loop-part-preserved
scope_with-loop-part-preserved g t c =
    let step = g.V.Visitor.step in
    goes_further (λ z ps. functor_params_told step z ps) functor_params c.args.list.now c.loop-part.part-index c.part-item.result _ _ _
    c.loop-part-test.true c.part-item.is
    (λ xs. told_more_functor_param step _ (view_functor_param c.part-item.result) (functor_params xs) ∙ ap (λ z. functor_params_told step z
    (functor_params xs)) (sym c.in_ok-parameter.ensures))
    c.loop-part.invariant

pub scope_with-returns : goal.scope_with-returns
scope_with-returns g t c =
    let step = g.V.Visitor.step in
    is_whole (λ z ps. functor_params_told step z ps) functor_params c.args.list.now c.loop-part.part-index _ _ c.loop-part-test.false
    (told_no_functor_param step _) c.loop-part.invariant
    ∙ ap (λ z. functor_params_told step z (functor_params c.args.list.now)) c.in_ok-hear.ensures

pub body-loop-part-preserved : goal.body-loop-part-preserved
body-loop-part-preserved g t c =
    let step = g.V.Visitor.step in
    goes_further (λ z is. items_told step z is) items c.args.list.now c.loop-part.part-index c.part-item.result _ _ _ c.loop-part-test.true
    c.part-item.is
    (λ xs. told_more_item step _ (view_item c.part-item.result) (items xs) ∙ ap (λ z. items_told step z (items xs)) (sym c.in_ok-item.ensures))
    c.loop-part.invariant

pub body-returns : goal.body-returns
body-returns g t c =
    let step = g.V.Visitor.step in
    is_whole (λ z is. items_told step z is) items c.args.list.now c.loop-part.part-index _ _ c.loop-part-test.false (told_no_item step _)
    c.loop-part.invariant

pub face-loop-part-preserved : goal.face-loop-part-preserved
face-loop-part-preserved g t c =
    let step = g.V.Visitor.step in
    goes_further (λ z is. sig_items_told step z is) sig_items c.args.list.now c.loop-part.part-index c.part-item.result _ _ _
    c.loop-part-test.true c.part-item.is
    (λ xs. told_more_sig_item step _ (view_sig_item c.part-item.result) (sig_items xs) ∙ ap (λ z. sig_items_told step z (sig_items xs)) (sym
    c.in_ok-signature_item.ensures))
    c.loop-part.invariant

pub face-returns : goal.face-returns
face-returns g t c =
    let step = g.V.Visitor.step in
    is_whole (λ z is. sig_items_told step z is) sig_items c.args.list.now c.loop-part.part-index _ _ c.loop-part-test.false (told_no_sig_item
    step _) c.loop-part.invariant

pub item-returns-in_ok-hear-in-Module : goal.item-returns-in_ok-hear-in-Module
item-returns-in_ok-hear-in-Module g t c =
    let step = g.V.Visitor.step in
    let state = g.V.Visitor.state in
    let e = c.in-Module in
    let shape = ap view_item e.is ∙ at_item_module e.at e.name e.params e.signature e.equals e.body in
    let whole = ap (item_told step (state c.args.visitor.now)) shape
    ∙ told_ModuleItem step (state c.args.visitor.now) e.at (view_module_name e.name) (functor_params e.params.items) (signature e.signature)
    e.equals
    (view_mod e.body) in
    let scope = c.in_ok-scope_with-in-Module.ensures
    ∙ ap (λ l. functor_params_told step (step (state c.args.visitor.now) scope_begins) (functor_params l)) c.deref-in-Module.ensures.value in
    let sealing = c.in_ok-walk_signature-in-Module.ensures ∙ ap (λ z. signature_told step z (signature e.signature)) scope in
    let inside = c.in_ok-module-in-Module.ensures ∙ ap (λ z. mod_told step z (view_mod e.body)) sealing in
    let ends = c.in_ok-hear-in-Module.ensures ∙ ap (λ z. step z scope_ends) inside in
    on_ok c.bring_name.result (λ h. h _ _ _ _ _ _ shape ∙ ap (λ z. brings_told step z (view_module_name e.name)) ends ∙ sym whole)
    c.bring_name.ensures
