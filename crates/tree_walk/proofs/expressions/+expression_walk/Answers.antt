use Rattle.std.proofs.Common.{◌≡◌, ◌∙◌, OnOk, ap, sym, subst}
use Rattle.ml_trees.specs.declared.fixed.Fixed.TheVariants as key
use Rattle.ml_trees.specs.Tok.{fixed}
use Rattle.ml_trees.specs.View.{view, view_tok, view_binding, view_case, view_argument, view_param, view_part, view_field, links, commas}
use Rattle.ml_trees.specs.View.{ops, tail_before, otherwise, maybe, bindings, cases, arguments, params, parts, fields}
use Rattle.tree_events.specs.Told.{expr_told, links_told, binding_told, bindings_told, case_told, cases_told, arguments_told}
use Rattle.tree_events.specs.Told.{params_told, parts_told, field_told, fields_told}
use Rattle.tree_events.proofs.Tells.{told_no_link, told_more_link, told_no_binding, told_more_binding, told_no_case, told_more_case}
use Rattle.tree_events.proofs.Tells.{told_no_argument, told_more_argument, told_no_param, told_more_param, told_no_part, told_more_part}
use Rattle.tree_events.proofs.Tells.{told_no_field, told_more_field, told_or_if, told_or_else, told_no_else, told_If, told_Let, told_Match}
use Rattle.tree_events.proofs.Tells.{told_Try, told_Record, tail_told}
use Rattle.ml_trees.specs.Events.{group_ends}
use Rattle.ml_trees.proofs.Variants.{at_expr_let, at_expr_match, at_expr_try, at_expr_record, at_expr_if}
use Rattle.tree_walk.proofs.Loops.{goes_further, is_whole, all_gone}
use Rattle.tree_walk.proofs.expressions.+expression_walk.Goals as goal

pub steps-loop-e-preserved : goal.steps-loop-e-preserved
steps-loop-e-preserved g t c =
    let step = g.V.Visitor.step in
    goes_further (λ z es. links_told step z es) links c.args.list.now c.loop-e.e-index c.e-item.result _ _ _ c.loop-e-test.true c.e-item.is
    (λ xs. told_more_link step _ (fixed key.Semicolon) (view c.e-item.result) (links xs) ∙ ap (λ z. links_told step z (links xs)) (sym
    (c.in_ok-expression.ensures ∙ ap (λ z. expr_told step z (view c.e-item.result)) c.in_ok-hear.ensures)))
    c.loop-e.invariant

pub steps-returns : goal.steps-returns
steps-returns g t c =
    let step = g.V.Visitor.step in
    is_whole (λ z es. links_told step z es) links c.args.list.now c.loop-e.e-index _ _ c.loop-e-test.false (told_no_link step _) c.loop-e.invariant

pub components-loop-e-preserved : goal.components-loop-e-preserved
components-loop-e-preserved g t c =
    let step = g.V.Visitor.step in
    goes_further (λ z es. links_told step z es) commas c.args.list.now c.loop-e.e-index c.e-item.result _ _ _ c.loop-e-test.true c.e-item.is
    (λ xs. told_more_link step _ (fixed key.Comma) (view c.e-item.result) (commas xs) ∙ ap (λ z. links_told step z (commas xs)) (sym
    (c.in_ok-expression.ensures ∙ ap (λ z. expr_told step z (view c.e-item.result)) c.in_ok-hear.ensures)))
    c.loop-e.invariant

pub components-returns : goal.components-returns
components-returns g t c =
    let step = g.V.Visitor.step in
    is_whole (λ z es. links_told step z es) commas c.args.list.now c.loop-e.e-index _ _ c.loop-e-test.false (told_no_link step _) c.loop-e.invariant

pub operands-loop-link-preserved : goal.operands-loop-link-preserved
operands-loop-link-preserved g t c =
    let step = g.V.Visitor.step in
    goes_further (λ z es. links_told step z es) ops c.args.list.now c.loop-link.link-index c.link-item.result _ _ _ c.loop-link-test.true
    c.link-item.is
    (λ xs. told_more_link step _ (view_tok c.link-item.result.0) (view c.link-item.result.1) (ops xs) ∙ ap (λ z. links_told step z (ops xs)) (sym
    (c.in_ok-expression.ensures ∙ ap (λ z. expr_told step z (view c.link-item.result.1)) c.in_ok-hear.ensures)))
    c.loop-link.invariant

pub operands-returns : goal.operands-returns
operands-returns g t c =
    let step = g.V.Visitor.step in
    is_whole (λ z es. links_told step z es) ops c.args.list.now c.loop-link.link-index _ _ c.loop-link-test.false (told_no_link step _)
    c.loop-link.invariant

pub more_bindings-loop-part-preserved : goal.more_bindings-loop-part-preserved
more_bindings-loop-part-preserved g t c =
    let step = g.V.Visitor.step in
    goes_further (λ z bs. bindings_told step z bs) bindings c.args.list.now c.loop-part.part-index c.part-item.result _ _ _ c.loop-part-test.true
    c.part-item.is
    (λ xs. told_more_binding step _ (view_binding c.part-item.result) (bindings xs) ∙ ap (λ z. bindings_told step z (bindings xs)) (sym
    c.in_ok-binding.ensures))
    c.loop-part.invariant

pub more_bindings-returns : goal.more_bindings-returns
more_bindings-returns g t c =
    let step = g.V.Visitor.step in
    is_whole (λ z bs. bindings_told step z bs) bindings c.args.list.now c.loop-part.part-index _ _ c.loop-part-test.false (told_no_binding step
    _) c.loop-part.invariant

pub more_cases-loop-part-preserved : goal.more_cases-loop-part-preserved
more_cases-loop-part-preserved g t c =
    let step = g.V.Visitor.step in
    goes_further (λ z cs. cases_told step z cs) cases c.args.list.now c.loop-part.part-index c.part-item.result _ _ _ c.loop-part-test.true
    c.part-item.is
    (λ xs. told_more_case step _ (view_case c.part-item.result) (cases xs) ∙ ap (λ z. cases_told step z (cases xs)) (sym c.in_ok-case.ensures))
    c.loop-part.invariant

pub more_cases-returns : goal.more_cases-returns
more_cases-returns g t c =
    let step = g.V.Visitor.step in
    is_whole (λ z cs. cases_told step z cs) cases c.args.list.now c.loop-part.part-index _ _ c.loop-part-test.false (told_no_case step _)
    c.loop-part.invariant

pub all_arguments-loop-part-preserved : goal.all_arguments-loop-part-preserved
all_arguments-loop-part-preserved g t c =
    let step = g.V.Visitor.step in
    goes_further (λ z es. arguments_told step z es) arguments c.args.list.now c.loop-part.part-index c.part-item.result _ _ _
    c.loop-part-test.true c.part-item.is
    (λ xs. told_more_argument step _ (view_argument c.part-item.result) (arguments xs) ∙ ap (λ z. arguments_told step z (arguments xs)) (sym
    c.in_ok-argument.ensures))
    c.loop-part.invariant

pub all_arguments-returns : goal.all_arguments-returns
all_arguments-returns g t c =
    let step = g.V.Visitor.step in
    is_whole (λ z es. arguments_told step z es) arguments c.args.list.now c.loop-part.part-index _ _ c.loop-part-test.false (told_no_argument
    step _) c.loop-part.invariant

pub parameters-loop-part-preserved : goal.parameters-loop-part-preserved
parameters-loop-part-preserved g t c =
    let step = g.V.Visitor.step in
    goes_further (λ z ps. params_told step z ps) params c.args.list.now c.loop-part.part-index c.part-item.result _ _ _ c.loop-part-test.true
    c.part-item.is
    (λ xs. told_more_param step _ (view_param c.part-item.result) (params xs) ∙ ap (λ z. params_told step z (params xs)) (sym
    c.in_ok-parameter.ensures))
    c.loop-part.invariant

pub parameters-returns : goal.parameters-returns
parameters-returns g t c =
    let step = g.V.Visitor.step in
    is_whole (λ z ps. params_told step z ps) params c.args.list.now c.loop-part.part-index _ _ c.loop-part-test.false (told_no_param step _)
    c.loop-part.invariant

pub all_parts-loop-one-preserved : goal.all_parts-loop-one-preserved
all_parts-loop-one-preserved g t c =
    let step = g.V.Visitor.step in
    goes_further (λ z ps. parts_told step z ps) parts c.args.list.now c.loop-one.one-index c.one-item.result _ _ _ c.loop-one-test.true
    c.one-item.is
    (λ xs. told_more_part step _ (view_part c.one-item.result) (parts xs) ∙ ap (λ z. parts_told step z (parts xs)) (sym c.in_ok-part.ensures))
    c.loop-one.invariant

pub all_parts-returns : goal.all_parts-returns
all_parts-returns g t c =
    let step = g.V.Visitor.step in
    is_whole (λ z ps. parts_told step z ps) parts c.args.list.now c.loop-one.one-index _ _ c.loop-one-test.false (told_no_part step _)
    c.loop-one.invariant

pub more_fields-loop-part-preserved : goal.more_fields-loop-part-preserved
more_fields-loop-part-preserved g t c =
    let step = g.V.Visitor.step in
    goes_further (λ z fs. fields_told step z fs) fields c.args.list.now c.loop-part.part-index c.part-item.result _ _ _ c.loop-part-test.true
    c.part-item.is
    (λ xs. told_more_field step _ (view_field c.part-item.result) (fields xs) ∙ ap (λ z. fields_told step z (fields xs)) (sym
    c.in_ok-field.ensures))
    c.loop-part.invariant

pub more_fields-returns : goal.more_fields-returns
more_fields-returns g t c =
    let step = g.V.Visitor.step in
    is_whole (λ z fs. fields_told step z fs) fields c.args.list.now c.loop-part.part-index _ _ c.loop-part-test.false (told_no_field step _)
    c.loop-part.invariant

pub expression-loop-branch-preserved : goal.expression-loop-branch-preserved
expression-loop-branch-preserved g t c =
    let step = g.V.Visitor.step in
    let b = c.branch-item.result in
    let others = tail_before (otherwise c.in-If.otherwise) in
    goes_further (λ z tail. tail_told step z tail) others c.deref-branch-items.result.now c.loop-branch.branch-index b _ _ _ c.loop-branch-test.true
    c.branch-item.is
    (λ xs. told_or_if step _ b.at (view b.test) (view b.then) (others xs)
    ∙ ap (λ z. tail_told step z (others xs))
    (sym (c.in_ok-expression-in-If-4.ensures ∙ ap (λ z. expr_told step z (view b.then)) c.in_ok-expression-in-If-3.ensures)))
    c.loop-branch.invariant

pub expression-returns-in_ok-hear-in-Let-2 : goal.expression-returns-in_ok-hear-in-Let-2
expression-returns-in_ok-hear-in-Let-2 g t c =
    let step = g.V.Visitor.step in
    let state = g.V.Visitor.state in
    let e = c.in-Let in
    let shape = ap (expr_told step (state c.args.visitor.now)) (ap view e.is ∙ at_expr_let e.at e.recursive e.first e.rest e.body)
    ∙ told_Let step (state c.args.visitor.now) e.at e.recursive (view_binding e.first.value) (bindings e.rest.items) (view e.body.value) in
    let first = c.in_ok-binding-in-Let.ensures ∙ ap (λ b. binding_told step (state c.hear.new.self) (view_binding b)) c.deref-in-Let.ensures
    ∙ ap (λ z. binding_told step z (view_binding e.first.value)) c.in_ok-hear-in-Let.ensures in
    let rest = c.in_ok-more_bindings-in-Let.ensures
    ∙ ap (λ l. bindings_told step (state c.binding.new.visitor) (bindings l)) c.deref-in-Let-2.ensures.value
    ∙ ap (λ z. bindings_told step z (bindings e.rest.items)) first in
    subst (λ z. OnOk c.expression-in-Let.result (state c.expression-in-Let.new.visitor ≡ z))
    (ap (λ b. expr_told step (state c.hear-in-Let.new.self) (view b)) c.deref-in-Let-3.ensures
    ∙ ap (λ z. expr_told step z (view e.body.value)) (c.in_ok-hear-in-Let-2.ensures ∙ ap (λ z. step z group_ends) rest) ∙ sym shape)
    c.expression-in-Let.ensures

pub expression-returns-in_ok-case-in-Match : goal.expression-returns-in_ok-case-in-Match
expression-returns-in_ok-case-in-Match g t c =
    let step = g.V.Visitor.step in
    let state = g.V.Visitor.state in
    let e = c.in-Match in
    let shape = ap (expr_told step (state c.args.visitor.now)) (ap view e.is ∙ at_expr_match e.at e.subject e.bar e.first e.rest)
    ∙ told_Match step (state c.args.visitor.now) e.at (view e.subject.value) e.bar (view_case e.first.value) (cases e.rest.items) in
    let subject = c.in_ok-expression-in-Match.ensures ∙ ap (λ x. expr_told step (state c.args.visitor.now) (view x)) c.deref-in-Match.ensures in
    let first = c.in_ok-case-in-Match.ensures ∙ ap (λ x. case_told step (state c.expression-in-Match.new.visitor) (view_case x))
    c.deref-in-Match-2.ensures
    ∙ ap (λ z. case_told step z (view_case e.first.value)) subject in
    subst (λ z. OnOk c.more_cases-in-Match.result (state c.more_cases-in-Match.new.visitor ≡ z))
    (ap (λ l. cases_told step (state c.case-in-Match.new.visitor) (cases l)) c.deref-in-Match-3.ensures.value
    ∙ ap (λ z. cases_told step z (cases e.rest.items)) first ∙ sym shape)
    c.more_cases-in-Match.ensures

pub expression-returns-in_ok-case-in-Try : goal.expression-returns-in_ok-case-in-Try
expression-returns-in_ok-case-in-Try g t c =
    let step = g.V.Visitor.step in
    let state = g.V.Visitor.state in
    let e = c.in-Try in
    let shape = ap (expr_told step (state c.args.visitor.now)) (ap view e.is ∙ at_expr_try e.at e.subject e.bar e.first e.rest)
    ∙ told_Try step (state c.args.visitor.now) e.at (view e.subject.value) e.bar (view_case e.first.value) (cases e.rest.items) in
    let subject = c.in_ok-expression-in-Try.ensures ∙ ap (λ x. expr_told step (state c.args.visitor.now) (view x)) c.deref-in-Try.ensures in
    let first = c.in_ok-case-in-Try.ensures ∙ ap (λ x. case_told step (state c.expression-in-Try.new.visitor) (view_case x))
    c.deref-in-Try-2.ensures
    ∙ ap (λ z. case_told step z (view_case e.first.value)) subject in
    subst (λ z. OnOk c.more_cases-in-Try.result (state c.more_cases-in-Try.new.visitor ≡ z))
    (ap (λ l. cases_told step (state c.case-in-Try.new.visitor) (cases l)) c.deref-in-Try-3.ensures.value
    ∙ ap (λ z. cases_told step z (cases e.rest.items)) first ∙ sym shape)
    c.more_cases-in-Try.ensures

pub expression-returns-in_ok-field-in-Record : goal.expression-returns-in_ok-field-in-Record
expression-returns-in_ok-field-in-Record g t c =
    let step = g.V.Visitor.step in
    let state = g.V.Visitor.state in
    let e = c.in-Record in
    let shape = ap (expr_told step (state c.args.visitor.now)) (ap view e.is ∙ at_expr_record e.at e.base e.first e.rest e.last)
    ∙ told_Record step (state c.args.visitor.now) e.at (maybe e.base) (view_field e.first.value) (fields e.rest.items) e.last in
    let first = c.in_ok-field-in-Record.ensures
    ∙ ap (λ x. field_told step (state c.walk_optional.new.visitor) (view_field x)) c.deref-in-Record.ensures
    ∙ ap (λ z. field_told step z (view_field e.first.value)) c.in_ok-walk_optional-in-Record.ensures.base in
    subst (λ z. OnOk c.more_fields.result (state c.more_fields.new.visitor ≡ z))
    (ap (λ l. fields_told step (state c.field.new.visitor) (fields l)) c.deref-in-Record-2.ensures.value
    ∙ ap (λ z. fields_told step z (fields e.rest.items)) first ∙ sym shape)
    c.more_fields.ensures

pub expression-returns-in-Some : goal.expression-returns-in-Some
expression-returns-in-Some g t c =
    let step = g.V.Visitor.step in
    let state = g.V.Visitor.state in
    let e = c.in-If in
    let shape = ap (expr_told step (state c.args.visitor.now)) (ap view e.is ∙ at_expr_if e.at e.test e.then e.more e.otherwise)
    ∙ told_If step (state c.args.visitor.now) e.at (view e.test.value) (view e.then.value) (tail_before (otherwise e.otherwise) e.more.items) in
    let test = c.in_ok-expression-in-If.ensures ∙ ap (λ x. expr_told step (state c.args.visitor.now) (view x)) c.deref-in-If.ensures in
    let then = c.in_ok-expression-in-If-2.ensures ∙ ap (λ x. expr_told step (state c.expression-in-If.new.visitor) (view x)) c.deref-in-If-2.ensures
    ∙ ap (λ z. expr_told step z (view e.then.value)) test in
    let more = all_gone (λ z tail. tail_told step z tail) (tail_before (otherwise e.otherwise)) c.deref-branch-items.result.now
    c.loop-branch.branch-index (state c.loop-branch.visitor) (state c.expression-in-If-2.new.visitor) c.loop-branch-test.false
    c.loop-branch.invariant
    ∙ ap (λ l. tail_told step (state c.expression-in-If-2.new.visitor) (tail_before (otherwise e.otherwise) l)) c.deref-branch-items.ensures.value
    ∙ ap (λ z. tail_told step z (tail_before (otherwise e.otherwise) e.more.items)) then in
    subst (λ z. OnOk c.expression-in-Some.result (state c.expression-in-Some.new.visitor ≡ z))
    (ap (λ x. expr_told step (state c.loop-branch.visitor) (view x)) c.deref-in-Some.ensures
    ∙ sym (ap (λ o. tail_told step (state c.loop-branch.visitor) (otherwise o)) c.in-Some.is ∙ told_or_else step _ _) ∙ more ∙ sym shape)
    c.expression-in-Some.ensures

pub expression-returns-in-None : goal.expression-returns-in-None
expression-returns-in-None g t c =
    let step = g.V.Visitor.step in
    let state = g.V.Visitor.state in
    let e = c.in-If in
    let shape = ap (expr_told step (state c.args.visitor.now)) (ap view e.is ∙ at_expr_if e.at e.test e.then e.more e.otherwise)
    ∙ told_If step (state c.args.visitor.now) e.at (view e.test.value) (view e.then.value) (tail_before (otherwise e.otherwise) e.more.items) in
    let test = c.in_ok-expression-in-If.ensures ∙ ap (λ x. expr_told step (state c.args.visitor.now) (view x)) c.deref-in-If.ensures in
    let then = c.in_ok-expression-in-If-2.ensures ∙ ap (λ x. expr_told step (state c.expression-in-If.new.visitor) (view x)) c.deref-in-If-2.ensures
    ∙ ap (λ z. expr_told step z (view e.then.value)) test in
    let more = all_gone (λ z tail. tail_told step z tail) (tail_before (otherwise e.otherwise)) c.deref-branch-items.result.now
    c.loop-branch.branch-index (state c.loop-branch.visitor) (state c.expression-in-If-2.new.visitor) c.loop-branch-test.false
    c.loop-branch.invariant
    ∙ ap (λ l. tail_told step (state c.expression-in-If-2.new.visitor) (tail_before (otherwise e.otherwise) l)) c.deref-branch-items.ensures.value
    ∙ ap (λ z. tail_told step z (tail_before (otherwise e.otherwise) e.more.items)) then in
    sym (ap (λ o. tail_told step (state c.loop-branch.visitor) (otherwise o)) c.in-None.is ∙ told_no_else step _) ∙ more ∙ sym shape
