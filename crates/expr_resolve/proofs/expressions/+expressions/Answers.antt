use Rattle.std.proofs.Common.{refl, ◌+◌, ◌∷◌, drop, take, sym, ap, ◌∙◌, length, arith}
use Rattle.std.proofs.lemmas.List.{drop_more, drop_all}
use Rattle.ml_trees.specs.declared.word.Word.{Word}
use Rattle.ml_trees.specs.declared.expression.Expr.{Expr}
use Rattle.ml_trees.specs.declared.expression.Argument.{Argument}
use Rattle.ml_trees.specs.declared.expression.Part.{Part}
use Rattle.ml_trees.specs.declared.expression.Field.{Field}
use Rattle.ml_trees.specs.declared.expression.Branch.{Branch}
use Rattle.ml_trees.specs.declared.expression.Case.{Case}
use Rattle.ml_trees.specs.declared.expression.Param.{Param}
use Rattle.ml_trees.specs.declared.expression.Binding.{Binding}
use Rattle.ml_trees.specs.View.{view, view_binding, view_case, view_field, view_param, params, maybe, links, ops, arguments, parts, fields, cases}
use Rattle.ml_trees.specs.View.{bindings}
use Rattle.shape_core.specs.Node.{entries_of}
use Rattle.binding_model.specs.Walk.{expr_steps, binding_steps, maybe_steps, case_steps, field_steps, params_steps, links_steps, arguments_steps}
use Rattle.binding_model.specs.Walk.{parts_steps, fields_steps, cases_steps, bindings_steps}
use Rattle.binding_model.specs.Taken.{taken, Going}
use Rattle.binding_model.specs.Steps.{◌⨾◌, GroupOf}
use Rattle.binding_model.proofs.Takings.{heavy_stays}
use Rattle.ml_trees.proofs.Variants.{at_expr_let, at_expr_if, at_expr_match, at_expr_try, at_expr_record}
use Rattle.shape_core.specs.Shape.{◌⊕◌}
use Rattle.binding_model.specs.Scopes.{bound, params_bound, let_bound, parts_scope}
use Rattle.binding_model.specs.Variables.{param_variables}
use Rattle.name_resolve.proofs.Lemmas.{joined, joined_none}
use Rattle.expr_resolve.proofs.Fronts.{front_of_front}
use Rattle.expr_resolve.proofs.Branches.{if_steps}
use Rattle.expr_resolve.proofs.Forms.{passed, carry, carry_heavy, alike, three}
use Rattle.expr_resolve.specs.Branches.{branches_steps}
use Rattle.expr_resolve.proofs.expressions.+expressions.Goals as goal

pub expressions-returns-in_err-expression-clause-heavy : goal.expressions-returns-in_err-expression-clause-heavy
expressions-returns-in_err-expression-clause-heavy t c =
    let rest = drop (c.loop-part.part-index + 1) c.args.list.now in
    let d = drop_more c.args.list.now c.loop-part.part-index c.part-item.result (omega (arith, c.loop-part-test.true))
    ∙ ap (λ (x : Expr). x ∷ rest) (sym c.part-item.is) in
    let more = links_steps c.args.file (entries_of c.loop-part.scope) (links rest) in
    passed c.from_residual.result c.in_err-expression.field-0.0 c.args.found.now
    (links_steps c.args.file (entries_of c.args.scope.now) (links c.args.list.now)) c.from_residual.ensures.0 c.from_residual.ensures.1
    (λ at h. sym c.loop-part.invariant.0
    ∙ ap (λ l. taken (Going c.loop-part.found) (links_steps c.args.file (entries_of c.loop-part.scope) (links l))) d
    ∙ ap (λ s. taken s more) (c.in_err-expression.ensures.heavy at h) ∙ heavy_stays more at)

pub all_arguments-returns-in_err-argument-clause-heavy : goal.all_arguments-returns-in_err-argument-clause-heavy
all_arguments-returns-in_err-argument-clause-heavy t c =
    let rest = drop (c.loop-part.part-index + 1) c.args.list.now in
    let d = drop_more c.args.list.now c.loop-part.part-index c.part-item.result (omega (arith, c.loop-part-test.true))
    ∙ ap (λ (x : Argument). x ∷ rest) (sym c.part-item.is) in
    let more = arguments_steps c.args.file (entries_of c.loop-part.scope) (arguments rest) in
    passed c.from_residual.result c.in_err-argument.field-0.0 c.args.found.now
    (arguments_steps c.args.file (entries_of c.args.scope.now) (arguments c.args.list.now)) c.from_residual.ensures.0 c.from_residual.ensures.1
    (λ at h. sym c.loop-part.invariant.0
    ∙ ap (λ l. taken (Going c.loop-part.found) (arguments_steps c.args.file (entries_of c.loop-part.scope) (arguments l))) d
    ∙ ap (λ s. taken s more) (c.in_err-argument.ensures.heavy at h) ∙ heavy_stays more at)

pub all_parts-returns-in_err-one_part-clause-heavy : goal.all_parts-returns-in_err-one_part-clause-heavy
all_parts-returns-in_err-one_part-clause-heavy t c =
    let rest = drop (c.loop-part.part-index + 1) c.args.list.now in
    let d = drop_more c.args.list.now c.loop-part.part-index c.part-item.result (omega (arith, c.loop-part-test.true))
    ∙ ap (λ (x : Part). x ∷ rest) (sym c.part-item.is) in
    let more = parts_steps c.args.file (entries_of c.loop-part.scope) (parts rest) in
    passed c.from_residual.result c.in_err-one_part.field-0.0 c.args.found.now
    (parts_steps c.args.file (entries_of c.args.scope.now) (parts c.args.list.now)) c.from_residual.ensures.0 c.from_residual.ensures.1
    (λ at h. sym c.loop-part.invariant.0
    ∙ ap (λ l. taken (Going c.loop-part.found) (parts_steps c.args.file (entries_of c.loop-part.scope) (parts l))) d
    ∙ ap (λ s. taken s more) (c.in_err-one_part.ensures.heavy at h) ∙ heavy_stays more at)

pub more_fields-returns-in_err-field-clause-heavy : goal.more_fields-returns-in_err-field-clause-heavy
more_fields-returns-in_err-field-clause-heavy t c =
    let rest = drop (c.loop-part.part-index + 1) c.args.list.now in
    let d = drop_more c.args.list.now c.loop-part.part-index c.part-item.result (omega (arith, c.loop-part-test.true))
    ∙ ap (λ (x : Field). x ∷ rest) (sym c.part-item.is) in
    let more = fields_steps c.args.file (entries_of c.loop-part.scope) (fields rest) in
    passed c.from_residual.result c.in_err-field.field-0.0 c.args.found.now
    (fields_steps c.args.file (entries_of c.args.scope.now) (fields c.args.list.now)) c.from_residual.ensures.0 c.from_residual.ensures.1
    (λ at h. sym c.loop-part.invariant.0
    ∙ ap (λ l. taken (Going c.loop-part.found) (fields_steps c.args.file (entries_of c.loop-part.scope) (fields l))) d
    ∙ ap (λ s. taken s more) (c.in_err-field.ensures.heavy at h) ∙ heavy_stays more at)

pub branches-returns-in_err-branch-clause-heavy : goal.branches-returns-in_err-branch-clause-heavy
branches-returns-in_err-branch-clause-heavy t c =
    let rest = drop (c.loop-part.part-index + 1) c.args.list.now in
    let d = drop_more c.args.list.now c.loop-part.part-index c.part-item.result (omega (arith, c.loop-part-test.true))
    ∙ ap (λ (x : Branch). x ∷ rest) (sym c.part-item.is) in
    let more = branches_steps c.args.file (entries_of c.loop-part.scope) (rest) in
    passed c.from_residual.result c.in_err-branch.field-0.0 c.args.found.now
    (branches_steps c.args.file (entries_of c.args.scope.now) (c.args.list.now)) c.from_residual.ensures.0 c.from_residual.ensures.1
    (λ at h. sym c.loop-part.invariant.0 ∙ ap (λ l. taken (Going c.loop-part.found) (branches_steps c.args.file (entries_of c.loop-part.scope) (l))) d
    ∙ ap (λ s. taken s more) (c.in_err-branch.ensures.heavy at h) ∙ heavy_stays more at)

pub more_cases-returns-in_err-case-clause-heavy : goal.more_cases-returns-in_err-case-clause-heavy
more_cases-returns-in_err-case-clause-heavy t c =
    let rest = drop (c.loop-part.part-index + 1) c.args.list.now in
    let d = drop_more c.args.list.now c.loop-part.part-index c.part-item.result (omega (arith, c.loop-part-test.true))
    ∙ ap (λ (x : Case). x ∷ rest) (sym c.part-item.is) in
    let more = cases_steps c.args.file (entries_of c.loop-part.scope) (cases rest) in
    passed c.from_residual.result c.in_err-case.field-0.0 c.args.found.now
    (cases_steps c.args.file (entries_of c.args.scope.now) (cases c.args.list.now)) c.from_residual.ensures.0 c.from_residual.ensures.1
    (λ at h. sym c.loop-part.invariant.0
    ∙ ap (λ l. taken (Going c.loop-part.found) (cases_steps c.args.file (entries_of c.loop-part.scope) (cases l))) d
    ∙ ap (λ s. taken s more) (c.in_err-case.ensures.heavy at h) ∙ heavy_stays more at)

pub more_bindings-returns-in_err-resolve_binding-clause-heavy : goal.more_bindings-returns-in_err-resolve_binding-clause-heavy
more_bindings-returns-in_err-resolve_binding-clause-heavy t c =
    let rest = drop (c.loop-part.part-index + 1) c.args.list.now in
    let d = drop_more c.args.list.now c.loop-part.part-index c.part-item.result (omega (arith, c.loop-part-test.true))
    ∙ ap (λ (x : Binding). x ∷ rest) (sym c.part-item.is) in
    let more = bindings_steps c.args.file (entries_of c.loop-part.scope) (bindings rest) in
    passed c.from_residual.result c.in_err-resolve_binding.field-0.0 c.args.found.now
    (bindings_steps c.args.file (entries_of c.args.scope.now) (bindings c.args.list.now)) c.from_residual.ensures.0 c.from_residual.ensures.1
    (λ at h. sym c.loop-part.invariant.0
    ∙ ap (λ l. taken (Going c.loop-part.found) (bindings_steps c.args.file (entries_of c.loop-part.scope) (bindings l))) d
    ∙ ap (λ s. taken s more) (c.in_err-resolve_binding.ensures.heavy at h) ∙ heavy_stays more at)

pub operands-returns-in_err-expression-clause-heavy : goal.operands-returns-in_err-expression-clause-heavy
operands-returns-in_err-expression-clause-heavy t c =
    let rest = drop (c.loop-part.part-index + 1) c.args.list.now in
    let d = drop_more c.args.list.now c.loop-part.part-index c.part-item.result (omega (arith, c.loop-part-test.true))
    ∙ ap (λ (x : Word × Expr). x ∷ rest) (sym c.part-item.is) in
    let sc = entries_of c.loop-part.scope in
    let more = links_steps c.args.file sc (ops rest) in
    passed c.from_residual-in_err-expression.result c.in_err-expression.field-0.0 c.args.found.now
    (links_steps c.args.file (entries_of c.args.scope.now) (ops c.args.list.now)) c.from_residual-in_err-expression.ensures.0
    c.from_residual-in_err-expression.ensures.1
    (λ at h. sym c.loop-part.invariant.0 ∙ ap (λ l. taken (Going c.loop-part.found) (links_steps c.args.file sc (ops l))) d
    ∙ ap (λ s. taken (taken s (expr_steps c.args.file sc (view c.part-item.result.1))) more) c.in_ok-use_operator.ensures.done
    ∙ ap (λ z. taken (taken (Going c.use_operator.new.found) (expr_steps c.args.file (entries_of z) (view c.part-item.result.1))) more)
    (sym c.in_ok-use_operator.ensures.scope)
    ∙ ap (λ s. taken s more) (c.in_err-expression.ensures.heavy at h) ∙ heavy_stays more at)

pub expression-returns-in_ok-case-in-Match-clause-taken : goal.expression-returns-in_ok-case-in-Match-clause-taken
expression-returns-in_ok-case-in-Match-clause-taken t c =
    let file = c.args.file in
    let sc = entries_of c.args.scope.now in
    let shape = ap view c.in-Match.is ∙ at_expr_match c.in-Match.at c.in-Match.subject c.in-Match.bar c.in-Match.first c.in-Match.rest in
    let e = ap (expr_steps file sc) shape
    ∙ sym (alike (λ a b k. expr_steps file sc (view a) ⨾ case_steps file sc (view_case b) ⨾ cases_steps file sc (cases k))
    c.deref-in-Match.result.now c.in-Match.subject.value c.deref-in-Match-2.result.now c.in-Match.first.value c.deref-in-Match-3.result.now
    c.in-Match.rest.items c.deref-in-Match.ensures c.deref-in-Match-2.ensures c.deref-in-Match-3.ensures.value) in
    carry c.more_cases-in-Match.result c.args.found.now c.case-in-Match.new.found c.more_cases-in-Match.new.found
    (expr_steps file sc (view c.args.e.now)) (cases_steps file (entries_of c.case-in-Match.new.scope) (cases c.deref-in-Match-3.result.now))
    (three c.args.found.now c.expression-in-Match.new.found c.case-in-Match.new.found c.args.scope.now c.expression-in-Match.new.scope
    c.case-in-Match.new.scope (λ s. expr_steps file s (view c.deref-in-Match.result.now))
    (λ s. case_steps file s (view_case c.deref-in-Match-2.result.now)) (λ s. cases_steps file s (cases c.deref-in-Match-3.result.now))
    (expr_steps file sc (view c.args.e.now)) c.in_ok-expression-in-Match.ensures.taken c.in_ok-expression-in-Match.ensures.scope
    c.in_ok-case-in-Match.ensures.taken c.in_ok-case-in-Match.ensures.scope e)
    c.more_cases-in-Match.ensures.taken

pub expression-returns-in_ok-case-in-Match-clause-heavy : goal.expression-returns-in_ok-case-in-Match-clause-heavy
expression-returns-in_ok-case-in-Match-clause-heavy t c =
    let file = c.args.file in
    let sc = entries_of c.args.scope.now in
    let shape = ap view c.in-Match.is ∙ at_expr_match c.in-Match.at c.in-Match.subject c.in-Match.bar c.in-Match.first c.in-Match.rest in
    let e = ap (expr_steps file sc) shape
    ∙ sym (alike (λ a b k. expr_steps file sc (view a) ⨾ case_steps file sc (view_case b) ⨾ cases_steps file sc (cases k))
    c.deref-in-Match.result.now c.in-Match.subject.value c.deref-in-Match-2.result.now c.in-Match.first.value c.deref-in-Match-3.result.now
    c.in-Match.rest.items c.deref-in-Match.ensures c.deref-in-Match-2.ensures c.deref-in-Match-3.ensures.value) in
    carry_heavy c.more_cases-in-Match.result c.args.found.now c.case-in-Match.new.found (expr_steps file sc (view c.args.e.now))
    (cases_steps file (entries_of c.case-in-Match.new.scope) (cases c.deref-in-Match-3.result.now))
    (three c.args.found.now c.expression-in-Match.new.found c.case-in-Match.new.found c.args.scope.now c.expression-in-Match.new.scope
    c.case-in-Match.new.scope (λ s. expr_steps file s (view c.deref-in-Match.result.now))
    (λ s. case_steps file s (view_case c.deref-in-Match-2.result.now)) (λ s. cases_steps file s (cases c.deref-in-Match-3.result.now))
    (expr_steps file sc (view c.args.e.now)) c.in_ok-expression-in-Match.ensures.taken c.in_ok-expression-in-Match.ensures.scope
    c.in_ok-case-in-Match.ensures.taken c.in_ok-case-in-Match.ensures.scope e)
    c.more_cases-in-Match.ensures.heavy

pub expression-returns-in_ok-case-in-Try-clause-taken : goal.expression-returns-in_ok-case-in-Try-clause-taken
expression-returns-in_ok-case-in-Try-clause-taken t c =
    let file = c.args.file in
    let sc = entries_of c.args.scope.now in
    let shape = ap view c.in-Try.is ∙ at_expr_try c.in-Try.at c.in-Try.subject c.in-Try.bar c.in-Try.first c.in-Try.rest in
    let e = ap (expr_steps file sc) shape
    ∙ sym (alike (λ a b k. expr_steps file sc (view a) ⨾ case_steps file sc (view_case b) ⨾ cases_steps file sc (cases k))
    c.deref-in-Try.result.now c.in-Try.subject.value c.deref-in-Try-2.result.now c.in-Try.first.value c.deref-in-Try-3.result.now
    c.in-Try.rest.items c.deref-in-Try.ensures c.deref-in-Try-2.ensures c.deref-in-Try-3.ensures.value) in
    carry c.more_cases-in-Try.result c.args.found.now c.case-in-Try.new.found c.more_cases-in-Try.new.found (expr_steps file sc (view c.args.e.now))
    (cases_steps file (entries_of c.case-in-Try.new.scope) (cases c.deref-in-Try-3.result.now))
    (three c.args.found.now c.expression-in-Try.new.found c.case-in-Try.new.found c.args.scope.now c.expression-in-Try.new.scope
    c.case-in-Try.new.scope (λ s. expr_steps file s (view c.deref-in-Try.result.now))
    (λ s. case_steps file s (view_case c.deref-in-Try-2.result.now)) (λ s. cases_steps file s (cases c.deref-in-Try-3.result.now))
    (expr_steps file sc (view c.args.e.now)) c.in_ok-expression-in-Try.ensures.taken c.in_ok-expression-in-Try.ensures.scope
    c.in_ok-case-in-Try.ensures.taken c.in_ok-case-in-Try.ensures.scope e)
    c.more_cases-in-Try.ensures.taken

pub expression-returns-in_ok-case-in-Try-clause-heavy : goal.expression-returns-in_ok-case-in-Try-clause-heavy
expression-returns-in_ok-case-in-Try-clause-heavy t c =
    let file = c.args.file in
    let sc = entries_of c.args.scope.now in
    let shape = ap view c.in-Try.is ∙ at_expr_try c.in-Try.at c.in-Try.subject c.in-Try.bar c.in-Try.first c.in-Try.rest in
    let e = ap (expr_steps file sc) shape
    ∙ sym (alike (λ a b k. expr_steps file sc (view a) ⨾ case_steps file sc (view_case b) ⨾ cases_steps file sc (cases k))
    c.deref-in-Try.result.now c.in-Try.subject.value c.deref-in-Try-2.result.now c.in-Try.first.value c.deref-in-Try-3.result.now
    c.in-Try.rest.items c.deref-in-Try.ensures c.deref-in-Try-2.ensures c.deref-in-Try-3.ensures.value) in
    carry_heavy c.more_cases-in-Try.result c.args.found.now c.case-in-Try.new.found (expr_steps file sc (view c.args.e.now))
    (cases_steps file (entries_of c.case-in-Try.new.scope) (cases c.deref-in-Try-3.result.now))
    (three c.args.found.now c.expression-in-Try.new.found c.case-in-Try.new.found c.args.scope.now c.expression-in-Try.new.scope
    c.case-in-Try.new.scope (λ s. expr_steps file s (view c.deref-in-Try.result.now))
    (λ s. case_steps file s (view_case c.deref-in-Try-2.result.now)) (λ s. cases_steps file s (cases c.deref-in-Try-3.result.now))
    (expr_steps file sc (view c.args.e.now)) c.in_ok-expression-in-Try.ensures.taken c.in_ok-expression-in-Try.ensures.scope
    c.in_ok-case-in-Try.ensures.taken c.in_ok-case-in-Try.ensures.scope e)
    c.more_cases-in-Try.ensures.heavy

pub expression-returns-in_ok-field-in-Record-clause-taken : goal.expression-returns-in_ok-field-in-Record-clause-taken
expression-returns-in_ok-field-in-Record-clause-taken t c =
    let file = c.args.file in
    let sc = entries_of c.args.scope.now in
    let shape = ap view c.in-Record.is ∙ at_expr_record c.in-Record.at c.in-Record.base c.in-Record.first c.in-Record.rest c.in-Record.last in
    let e = ap (expr_steps file sc) shape
    ∙ sym (alike (λ a b k. maybe_steps file sc (maybe a) ⨾ field_steps file sc (view_field b) ⨾ fields_steps file sc (fields k)) c.in-Record.base
    c.in-Record.base c.deref-in-Record.result.now c.in-Record.first.value c.deref-in-Record-2.result.now c.in-Record.rest.items refl
    c.deref-in-Record.ensures c.deref-in-Record-2.ensures.value) in
    carry c.more_fields.result c.args.found.now c.field.new.found c.more_fields.new.found (expr_steps file sc (view c.args.e.now))
    (fields_steps file (entries_of c.field.new.scope) (fields c.deref-in-Record-2.result.now))
    (three c.args.found.now c.resolve_optional-in-Record.new.found c.field.new.found c.args.scope.now c.resolve_optional-in-Record.new.scope
    c.field.new.scope
    (λ s. maybe_steps file s (maybe c.in-Record.base)) (λ s. field_steps file s (view_field c.deref-in-Record.result.now))
    (λ s. fields_steps file s (fields c.deref-in-Record-2.result.now))
    (expr_steps file sc (view c.args.e.now)) c.in_ok-resolve_optional-in-Record.ensures.taken c.in_ok-resolve_optional-in-Record.ensures.scope
    c.in_ok-field-in-Record.ensures.taken c.in_ok-field-in-Record.ensures.scope e)
    c.more_fields.ensures.taken

pub expression-returns-in_ok-field-in-Record-clause-heavy : goal.expression-returns-in_ok-field-in-Record-clause-heavy
expression-returns-in_ok-field-in-Record-clause-heavy t c =
    let file = c.args.file in
    let sc = entries_of c.args.scope.now in
    let shape = ap view c.in-Record.is ∙ at_expr_record c.in-Record.at c.in-Record.base c.in-Record.first c.in-Record.rest c.in-Record.last in
    let e = ap (expr_steps file sc) shape
    ∙ sym (alike (λ a b k. maybe_steps file sc (maybe a) ⨾ field_steps file sc (view_field b) ⨾ fields_steps file sc (fields k)) c.in-Record.base
    c.in-Record.base c.deref-in-Record.result.now c.in-Record.first.value c.deref-in-Record-2.result.now c.in-Record.rest.items refl
    c.deref-in-Record.ensures c.deref-in-Record-2.ensures.value) in
    carry_heavy c.more_fields.result c.args.found.now c.field.new.found (expr_steps file sc (view c.args.e.now))
    (fields_steps file (entries_of c.field.new.scope) (fields c.deref-in-Record-2.result.now))
    (three c.args.found.now c.resolve_optional-in-Record.new.found c.field.new.found c.args.scope.now c.resolve_optional-in-Record.new.scope
    c.field.new.scope
    (λ s. maybe_steps file s (maybe c.in-Record.base)) (λ s. field_steps file s (view_field c.deref-in-Record.result.now))
    (λ s. fields_steps file s (fields c.deref-in-Record-2.result.now))
    (expr_steps file sc (view c.args.e.now)) c.in_ok-resolve_optional-in-Record.ensures.taken c.in_ok-resolve_optional-in-Record.ensures.scope
    c.in_ok-field-in-Record.ensures.taken c.in_ok-field-in-Record.ensures.scope e)
    c.more_fields.ensures.heavy

pub parameters-returns-in_err-values-clause-heavy : goal.parameters-returns-in_err-values-clause-heavy
parameters-returns-in_err-values-clause-heavy t c =
    let file = c.args.file in
    let sc = entries_of c.loop-part.scope in
    let rest = drop (c.loop-part.part-index + 1) c.args.list.now in
    let d = drop_more c.args.list.now c.loop-part.part-index c.part-item.result (omega (arith, c.loop-part-test.true))
    ∙ ap (λ (x : Param). x ∷ rest) (sym c.part-item.is) in
    let more = params_steps file (sc ⊕ bound file (param_variables (view_param c.part-item.result))) (params rest) in
    passed c.from_residual.result c.in_err-values.field-0.0 c.args.found.now
    (params_steps file (entries_of c.args.scope.now) (params c.args.list.now)) c.from_residual.ensures.0 c.from_residual.ensures.1
    (λ at h. sym c.loop-part.invariant.0 ∙ ap (λ l. taken (Going c.loop-part.found) (params_steps file sc (params l))) d
    ∙ ap (λ s. taken s more) (c.in_err-values.ensures.heavy at h) ∙ heavy_stays more at)

pub parameters-loop-part-preserved : goal.parameters-loop-part-preserved
parameters-loop-part-preserved t c =
    let file = c.args.file in
    let sc = entries_of c.loop-part.scope in
    let rest = drop (c.loop-part.part-index + 1) c.args.list.now in
    let d = drop_more c.args.list.now c.loop-part.part-index c.part-item.result (omega (arith, c.loop-part-test.true))
    ∙ ap (λ (x : Param). x ∷ rest) (sym c.part-item.is) in
    let new = bound file (param_variables (view_param c.part-item.result)) in
    let same = c.in_ok-values.ensures.scope in
    let e = c.in_ok-go_on_with.ensures.added ∙ ap (λ s. entries_of s ⊕ entries_of c.deref.result.now) same
    ∙ ap (λ b. sc ⊕ b) (ap entries_of c.deref.ensures.value ∙ c.in_ok-values.ensures.values) in (
      ap (λ s. taken (Going c.parameter.new.found) (params_steps file s (params rest))) e
          ∙ sym (ap (λ s. taken s (params_steps file (sc ⊕ new) (params rest))) c.in_ok-values.ensures.taken)
          ∙ sym (ap (λ l. taken (Going c.loop-part.found) (params_steps file sc (params l))) d) ∙ c.loop-part.invariant.0,
      front_of_front c.args.scope.now c.parameter.new.scope c.go_on_with.new.scope
          (ap (take (length c.args.scope.now)) same ∙ c.loop-part.invariant.1) (omega (arith, c.loop-part.invariant.2, ap length same))
          c.go_on_with.ensures.front,
      omega (arith, c.loop-part.invariant.2, ap length same, c.go_on_with.ensures.long),
      ap (λ s. s ⊕ params_bound file (params rest)) e ∙ joined sc new (params_bound file (params rest))
          ∙ sym (ap (λ l. sc ⊕ params_bound file (params l)) d) ∙ c.loop-part.invariant.3,
    )

pub parameters-returns-clause-grown : goal.parameters-returns-clause-grown
parameters-returns-clause-grown t c =
    sym (joined_none (entries_of c.loop-part.scope))
    ∙ sym (ap (λ l. entries_of c.loop-part.scope ⊕ params_bound c.args.file (params l))
    (drop_all c.loop-part.part-index c.args.list.now (omega (arith, c.loop-part-test.false)))) ∙ c.loop-part.invariant.3

pub expression-returns-in_err-let_part-in-Let-clause-heavy : goal.expression-returns-in_err-let_part-in-Let-clause-heavy
expression-returns-in_err-let_part-in-Let-clause-heavy t c =
    let file = c.args.file in
    let sc = entries_of c.args.scope.now in
    let rec = c.in-Let.recursive in
    let W = entries_of c.in_ok-values-in-Let.values.items in
    let b = view_binding c.in-Let.first.value in
    let bs = bindings c.in-Let.rest.items in
    let body = view c.in-Let.body.value in
    let f0 = c.args.found.now in
    let f1 = c.group.new.found in
    let shape = ap view c.in-Let.is ∙ at_expr_let c.in-Let.at c.in-Let.recursive c.in-Let.first c.in-Let.rest c.in-Let.body in
    let hV = c.in_ok-values-in-Let.ensures ∙ ap (λ x. let_bound file (view_binding x) (bindings c.deref-in-Let-2.result.now)) c.deref-in-Let.ensures
    ∙ ap (λ l. let_bound file b (bindings l)) c.deref-in-Let-2.ensures.value in
    let P1 = binding_steps file (parts_scope rec sc W) b in
    let P2 = bindings_steps file (parts_scope rec sc W) bs in
    let P3 = expr_steps file (sc ⊕ W) body in
    let all = ap (expr_steps file sc) shape
    ∙ ap (λ v. GroupOf v ⨾ binding_steps file (parts_scope rec sc v) b ⨾ bindings_steps file (parts_scope rec sc v) bs ⨾ expr_steps file
    (sc ⊕ v) body) (sym hV) in
    let hg = ap (λ l. taken (Going f0) (GroupOf (entries_of l))) (sym c.deref-in-Let-3.ensures.value) ∙ c.in_ok-group-in-Let.ensures in
    let p1 = ap (λ l. binding_steps file (parts_scope rec sc (entries_of l)) (view_binding c.deref-in-Let-4.result.now))
    c.deref-in-Let-5.ensures.value ∙ ap (λ x. binding_steps file (parts_scope rec sc W) (view_binding x)) c.deref-in-Let-4.ensures in
    let before = ap (taken (Going f0)) all ∙ ap (λ t. taken (taken (taken t P1) P2) P3) hg in
    passed c.from_residual-in_err-let_part-in-Let.result c.in_err-let_part-in-Let.field-0.0 f0 (expr_steps file sc (view c.args.e.now))
    c.from_residual-in_err-let_part-in-Let.ensures.0 c.from_residual-in_err-let_part-in-Let.ensures.1
    (λ at h. before ∙ ap (λ t. taken (taken t P2) P3) (sym (ap (taken (Going f1)) p1) ∙ c.in_err-let_part-in-Let.ensures.heavy at h)
    ∙ ap (λ t. taken t P3) (heavy_stays P2 at) ∙ heavy_stays P3 at)

pub expression-returns-in_err-let_parts-in-Let-clause-heavy : goal.expression-returns-in_err-let_parts-in-Let-clause-heavy
expression-returns-in_err-let_parts-in-Let-clause-heavy t c =
    let file = c.args.file in
    let sc = entries_of c.args.scope.now in
    let rec = c.in-Let.recursive in
    let W = entries_of c.in_ok-values-in-Let.values.items in
    let b = view_binding c.in-Let.first.value in
    let bs = bindings c.in-Let.rest.items in
    let body = view c.in-Let.body.value in
    let f0 = c.args.found.now in
    let f1 = c.group.new.found in
    let shape = ap view c.in-Let.is ∙ at_expr_let c.in-Let.at c.in-Let.recursive c.in-Let.first c.in-Let.rest c.in-Let.body in
    let hV = c.in_ok-values-in-Let.ensures ∙ ap (λ x. let_bound file (view_binding x) (bindings c.deref-in-Let-2.result.now)) c.deref-in-Let.ensures
    ∙ ap (λ l. let_bound file b (bindings l)) c.deref-in-Let-2.ensures.value in
    let P1 = binding_steps file (parts_scope rec sc W) b in
    let P2 = bindings_steps file (parts_scope rec sc W) bs in
    let P3 = expr_steps file (sc ⊕ W) body in
    let all = ap (expr_steps file sc) shape
    ∙ ap (λ v. GroupOf v ⨾ binding_steps file (parts_scope rec sc v) b ⨾ bindings_steps file (parts_scope rec sc v) bs ⨾ expr_steps file
    (sc ⊕ v) body) (sym hV) in
    let hg = ap (λ l. taken (Going f0) (GroupOf (entries_of l))) (sym c.deref-in-Let-3.ensures.value) ∙ c.in_ok-group-in-Let.ensures in
    let p1 = ap (λ l. binding_steps file (parts_scope rec sc (entries_of l)) (view_binding c.deref-in-Let-4.result.now))
    c.deref-in-Let-5.ensures.value ∙ ap (λ x. binding_steps file (parts_scope rec sc W) (view_binding x)) c.deref-in-Let-4.ensures in
    let before = ap (taken (Going f0)) all ∙ ap (λ t. taken (taken (taken t P1) P2) P3) hg in
    let f2 = c.let_part.new.found in
    let same = c.in_ok-let_part-in-Let.ensures.scope in
    let h2 = sym (ap (taken (Going f1)) p1) ∙ c.in_ok-let_part-in-Let.ensures.taken in
    let p2 = ap (λ s. bindings_steps file (parts_scope rec (entries_of s) (entries_of c.deref-in-Let-7.result.now))
    (bindings c.deref-in-Let-6.result.now)) same
    ∙ ap (λ l. bindings_steps file (parts_scope rec sc (entries_of l)) (bindings c.deref-in-Let-6.result.now)) c.deref-in-Let-7.ensures.value
    ∙ ap (λ l. bindings_steps file (parts_scope rec sc W) (bindings l)) c.deref-in-Let-6.ensures.value in
    let until = before ∙ ap (λ t. taken (taken t P2) P3) h2 in
    passed c.from_residual-in_err-let_parts-in-Let.result c.in_err-let_parts-in-Let.field-0.0 f0 (expr_steps file sc (view c.args.e.now))
    c.from_residual-in_err-let_parts-in-Let.ensures.0 c.from_residual-in_err-let_parts-in-Let.ensures.1
    (λ at h. until ∙ ap (λ t. taken t P3) (sym (ap (taken (Going f2)) p2) ∙ c.in_err-let_parts-in-Let.ensures.heavy at h) ∙ heavy_stays P3 at)

pub expression-returns-in_ok-let_parts-in-Let-clause-taken : goal.expression-returns-in_ok-let_parts-in-Let-clause-taken
expression-returns-in_ok-let_parts-in-Let-clause-taken t c =
    let file = c.args.file in
    let sc = entries_of c.args.scope.now in
    let rec = c.in-Let.recursive in
    let W = entries_of c.in_ok-values-in-Let.values.items in
    let b = view_binding c.in-Let.first.value in
    let bs = bindings c.in-Let.rest.items in
    let body = view c.in-Let.body.value in
    let f0 = c.args.found.now in
    let f1 = c.group.new.found in
    let shape = ap view c.in-Let.is ∙ at_expr_let c.in-Let.at c.in-Let.recursive c.in-Let.first c.in-Let.rest c.in-Let.body in
    let hV = c.in_ok-values-in-Let.ensures ∙ ap (λ x. let_bound file (view_binding x) (bindings c.deref-in-Let-2.result.now)) c.deref-in-Let.ensures
    ∙ ap (λ l. let_bound file b (bindings l)) c.deref-in-Let-2.ensures.value in
    let P1 = binding_steps file (parts_scope rec sc W) b in
    let P2 = bindings_steps file (parts_scope rec sc W) bs in
    let P3 = expr_steps file (sc ⊕ W) body in
    let all = ap (expr_steps file sc) shape
    ∙ ap (λ v. GroupOf v ⨾ binding_steps file (parts_scope rec sc v) b ⨾ bindings_steps file (parts_scope rec sc v) bs ⨾ expr_steps file
    (sc ⊕ v) body) (sym hV) in
    let hg = ap (λ l. taken (Going f0) (GroupOf (entries_of l))) (sym c.deref-in-Let-3.ensures.value) ∙ c.in_ok-group-in-Let.ensures in
    let p1 = ap (λ l. binding_steps file (parts_scope rec sc (entries_of l)) (view_binding c.deref-in-Let-4.result.now))
    c.deref-in-Let-5.ensures.value ∙ ap (λ x. binding_steps file (parts_scope rec sc W) (view_binding x)) c.deref-in-Let-4.ensures in
    let before = ap (taken (Going f0)) all ∙ ap (λ t. taken (taken (taken t P1) P2) P3) hg in
    let f2 = c.let_part.new.found in
    let same = c.in_ok-let_part-in-Let.ensures.scope in
    let h2 = sym (ap (taken (Going f1)) p1) ∙ c.in_ok-let_part-in-Let.ensures.taken in
    let p2 = ap (λ s. bindings_steps file (parts_scope rec (entries_of s) (entries_of c.deref-in-Let-7.result.now))
    (bindings c.deref-in-Let-6.result.now)) same
    ∙ ap (λ l. bindings_steps file (parts_scope rec sc (entries_of l)) (bindings c.deref-in-Let-6.result.now)) c.deref-in-Let-7.ensures.value
    ∙ ap (λ l. bindings_steps file (parts_scope rec sc W) (bindings l)) c.deref-in-Let-6.ensures.value in
    let until = before ∙ ap (λ t. taken (taken t P2) P3) h2 in
    let f3 = c.let_parts.new.found in
    let kept = c.in_ok-let_parts-in-Let.ensures.scope ∙ same in
    let h3 = sym (ap (taken (Going f2)) p2) ∙ c.in_ok-let_parts-in-Let.ensures.taken in
    let p3 = ap (λ s. expr_steps file (entries_of s ⊕ entries_of c.deref-in-Let-9.result.now) (view c.deref-in-Let-8.result.now)) kept
    ∙ ap (λ l. expr_steps file (sc ⊕ entries_of l) (view c.deref-in-Let-8.result.now)) c.deref-in-Let-9.ensures.value
    ∙ ap (λ x. expr_steps file (sc ⊕ W) (view x)) c.deref-in-Let-8.ensures in
    let whole = ap (taken (Going f3)) p3 ∙ sym (until ∙ ap (λ t. taken t P3) h3) in
    carry c.resolve_under.result f0 f3 c.resolve_under.new.found (expr_steps file sc (view c.args.e.now))
    (expr_steps file (entries_of c.let_parts.new.scope ⊕ entries_of c.deref-in-Let-9.result.now) (view c.deref-in-Let-8.result.now)) whole
    c.resolve_under.ensures.taken

pub expression-returns-in_ok-let_parts-in-Let-clause-heavy : goal.expression-returns-in_ok-let_parts-in-Let-clause-heavy
expression-returns-in_ok-let_parts-in-Let-clause-heavy t c =
    let file = c.args.file in
    let sc = entries_of c.args.scope.now in
    let rec = c.in-Let.recursive in
    let W = entries_of c.in_ok-values-in-Let.values.items in
    let b = view_binding c.in-Let.first.value in
    let bs = bindings c.in-Let.rest.items in
    let body = view c.in-Let.body.value in
    let f0 = c.args.found.now in
    let f1 = c.group.new.found in
    let shape = ap view c.in-Let.is ∙ at_expr_let c.in-Let.at c.in-Let.recursive c.in-Let.first c.in-Let.rest c.in-Let.body in
    let hV = c.in_ok-values-in-Let.ensures ∙ ap (λ x. let_bound file (view_binding x) (bindings c.deref-in-Let-2.result.now)) c.deref-in-Let.ensures
    ∙ ap (λ l. let_bound file b (bindings l)) c.deref-in-Let-2.ensures.value in
    let P1 = binding_steps file (parts_scope rec sc W) b in
    let P2 = bindings_steps file (parts_scope rec sc W) bs in
    let P3 = expr_steps file (sc ⊕ W) body in
    let all = ap (expr_steps file sc) shape
    ∙ ap (λ v. GroupOf v ⨾ binding_steps file (parts_scope rec sc v) b ⨾ bindings_steps file (parts_scope rec sc v) bs ⨾ expr_steps file
    (sc ⊕ v) body) (sym hV) in
    let hg = ap (λ l. taken (Going f0) (GroupOf (entries_of l))) (sym c.deref-in-Let-3.ensures.value) ∙ c.in_ok-group-in-Let.ensures in
    let p1 = ap (λ l. binding_steps file (parts_scope rec sc (entries_of l)) (view_binding c.deref-in-Let-4.result.now))
    c.deref-in-Let-5.ensures.value ∙ ap (λ x. binding_steps file (parts_scope rec sc W) (view_binding x)) c.deref-in-Let-4.ensures in
    let before = ap (taken (Going f0)) all ∙ ap (λ t. taken (taken (taken t P1) P2) P3) hg in
    let f2 = c.let_part.new.found in
    let same = c.in_ok-let_part-in-Let.ensures.scope in
    let h2 = sym (ap (taken (Going f1)) p1) ∙ c.in_ok-let_part-in-Let.ensures.taken in
    let p2 = ap (λ s. bindings_steps file (parts_scope rec (entries_of s) (entries_of c.deref-in-Let-7.result.now))
    (bindings c.deref-in-Let-6.result.now)) same
    ∙ ap (λ l. bindings_steps file (parts_scope rec sc (entries_of l)) (bindings c.deref-in-Let-6.result.now)) c.deref-in-Let-7.ensures.value
    ∙ ap (λ l. bindings_steps file (parts_scope rec sc W) (bindings l)) c.deref-in-Let-6.ensures.value in
    let until = before ∙ ap (λ t. taken (taken t P2) P3) h2 in
    let f3 = c.let_parts.new.found in
    let kept = c.in_ok-let_parts-in-Let.ensures.scope ∙ same in
    let h3 = sym (ap (taken (Going f2)) p2) ∙ c.in_ok-let_parts-in-Let.ensures.taken in
    let p3 = ap (λ s. expr_steps file (entries_of s ⊕ entries_of c.deref-in-Let-9.result.now) (view c.deref-in-Let-8.result.now)) kept
    ∙ ap (λ l. expr_steps file (sc ⊕ entries_of l) (view c.deref-in-Let-8.result.now)) c.deref-in-Let-9.ensures.value
    ∙ ap (λ x. expr_steps file (sc ⊕ W) (view x)) c.deref-in-Let-8.ensures in
    let whole = ap (taken (Going f3)) p3 ∙ sym (until ∙ ap (λ t. taken t P3) h3) in
    carry_heavy c.resolve_under.result f0 f3 (expr_steps file sc (view c.args.e.now))
    (expr_steps file (entries_of c.let_parts.new.scope ⊕ entries_of c.deref-in-Let-9.result.now) (view c.deref-in-Let-8.result.now)) whole
    c.resolve_under.ensures.heavy

pub expression-returns-in_err-branches-in-If-clause-heavy : goal.expression-returns-in_err-branches-in-If-clause-heavy
expression-returns-in_err-branches-in-If-clause-heavy t c =
    let file = c.args.file in
    let sc = entries_of c.args.scope.now in
    let f0 = c.args.found.now in
    let f1 = c.expression-in-If.new.found in
    let f2 = c.expression-in-If-2.new.found in
    let E2 = expr_steps file sc (view c.in-If.then.value) in
    let B = branches_steps file sc c.in-If.more.items in
    let O = maybe_steps file sc (maybe c.in-If.otherwise) in
    let shape = ap view c.in-If.is ∙ at_expr_if c.in-If.at c.in-If.test c.in-If.then c.in-If.more c.in-If.otherwise in
    let all = ap (λ v. taken (Going f0) (expr_steps file sc v)) shape
    ∙ if_steps (Going f0) file c.in-If.at sc c.in-If.test.value c.in-If.then.value c.in-If.more.items c.in-If.otherwise in
    let h1 = ap (λ x. taken (Going f0) (expr_steps file sc (view x))) (sym c.deref-in-If.ensures) ∙ c.in_ok-expression-in-If.ensures.taken in
    let same = c.in_ok-expression-in-If.ensures.scope in
    let h2 = ap (λ x. taken (Going f1) (expr_steps file sc (view x))) (sym c.deref-in-If-2.ensures)
    ∙ ap (λ s. taken (Going f1) (expr_steps file (entries_of s) (view c.deref-in-If-2.result.now))) (sym same)
    ∙ c.in_ok-expression-in-If-2.ensures.taken in
    let kept = c.in_ok-expression-in-If-2.ensures.scope ∙ same in
    let pB = ap (λ s. branches_steps file (entries_of s) c.deref-in-If-3.result.now) kept
    ∙ ap (branches_steps file sc) c.deref-in-If-3.ensures.value in
    let until = all ∙ ap (λ t. taken (taken (taken t E2) B) O) h1 ∙ ap (λ t. taken (taken t B) O) h2 in
    passed c.from_residual-in_err-branches-in-If.result c.in_err-branches-in-If.field-0.0 f0 (expr_steps file sc (view c.args.e.now))
    c.from_residual-in_err-branches-in-If.ensures.0 c.from_residual-in_err-branches-in-If.ensures.1
    (λ at h. until ∙ ap (λ t. taken t O) (sym (ap (taken (Going f2)) pB) ∙ c.in_err-branches-in-If.ensures.heavy at h) ∙ heavy_stays O at)

pub expression-returns-in_ok-branches-in-If-clause-taken : goal.expression-returns-in_ok-branches-in-If-clause-taken
expression-returns-in_ok-branches-in-If-clause-taken t c =
    let file = c.args.file in
    let sc = entries_of c.args.scope.now in
    let f0 = c.args.found.now in
    let f1 = c.expression-in-If.new.found in
    let f2 = c.expression-in-If-2.new.found in
    let E2 = expr_steps file sc (view c.in-If.then.value) in
    let B = branches_steps file sc c.in-If.more.items in
    let O = maybe_steps file sc (maybe c.in-If.otherwise) in
    let shape = ap view c.in-If.is ∙ at_expr_if c.in-If.at c.in-If.test c.in-If.then c.in-If.more c.in-If.otherwise in
    let all = ap (λ v. taken (Going f0) (expr_steps file sc v)) shape
    ∙ if_steps (Going f0) file c.in-If.at sc c.in-If.test.value c.in-If.then.value c.in-If.more.items c.in-If.otherwise in
    let h1 = ap (λ x. taken (Going f0) (expr_steps file sc (view x))) (sym c.deref-in-If.ensures) ∙ c.in_ok-expression-in-If.ensures.taken in
    let same = c.in_ok-expression-in-If.ensures.scope in
    let h2 = ap (λ x. taken (Going f1) (expr_steps file sc (view x))) (sym c.deref-in-If-2.ensures)
    ∙ ap (λ s. taken (Going f1) (expr_steps file (entries_of s) (view c.deref-in-If-2.result.now))) (sym same)
    ∙ c.in_ok-expression-in-If-2.ensures.taken in
    let kept = c.in_ok-expression-in-If-2.ensures.scope ∙ same in
    let pB = ap (λ s. branches_steps file (entries_of s) c.deref-in-If-3.result.now) kept
    ∙ ap (branches_steps file sc) c.deref-in-If-3.ensures.value in
    let until = all ∙ ap (λ t. taken (taken (taken t E2) B) O) h1 ∙ ap (λ t. taken (taken t B) O) h2 in
    let f3 = c.branches.new.found in
    let pO = ap (λ s. maybe_steps file (entries_of s) (maybe c.in-If.otherwise)) (c.in_ok-branches-in-If.ensures.scope ∙ kept) in
    let whole = ap (taken (Going f3)) pO
    ∙ sym (until ∙ ap (λ t. taken t O) (sym (ap (taken (Going f2)) pB) ∙ c.in_ok-branches-in-If.ensures.taken)) in
    carry c.resolve_optional.result f0 f3 c.resolve_optional.new.found (expr_steps file sc (view c.args.e.now))
    (maybe_steps file (entries_of c.branches.new.scope) (maybe c.in-If.otherwise)) whole c.resolve_optional.ensures.taken

pub expression-returns-in_ok-branches-in-If-clause-heavy : goal.expression-returns-in_ok-branches-in-If-clause-heavy
expression-returns-in_ok-branches-in-If-clause-heavy t c =
    let file = c.args.file in
    let sc = entries_of c.args.scope.now in
    let f0 = c.args.found.now in
    let f1 = c.expression-in-If.new.found in
    let f2 = c.expression-in-If-2.new.found in
    let E2 = expr_steps file sc (view c.in-If.then.value) in
    let B = branches_steps file sc c.in-If.more.items in
    let O = maybe_steps file sc (maybe c.in-If.otherwise) in
    let shape = ap view c.in-If.is ∙ at_expr_if c.in-If.at c.in-If.test c.in-If.then c.in-If.more c.in-If.otherwise in
    let all = ap (λ v. taken (Going f0) (expr_steps file sc v)) shape
    ∙ if_steps (Going f0) file c.in-If.at sc c.in-If.test.value c.in-If.then.value c.in-If.more.items c.in-If.otherwise in
    let h1 = ap (λ x. taken (Going f0) (expr_steps file sc (view x))) (sym c.deref-in-If.ensures) ∙ c.in_ok-expression-in-If.ensures.taken in
    let same = c.in_ok-expression-in-If.ensures.scope in
    let h2 = ap (λ x. taken (Going f1) (expr_steps file sc (view x))) (sym c.deref-in-If-2.ensures)
    ∙ ap (λ s. taken (Going f1) (expr_steps file (entries_of s) (view c.deref-in-If-2.result.now))) (sym same)
    ∙ c.in_ok-expression-in-If-2.ensures.taken in
    let kept = c.in_ok-expression-in-If-2.ensures.scope ∙ same in
    let pB = ap (λ s. branches_steps file (entries_of s) c.deref-in-If-3.result.now) kept
    ∙ ap (branches_steps file sc) c.deref-in-If-3.ensures.value in
    let until = all ∙ ap (λ t. taken (taken (taken t E2) B) O) h1 ∙ ap (λ t. taken (taken t B) O) h2 in
    let f3 = c.branches.new.found in
    let pO = ap (λ s. maybe_steps file (entries_of s) (maybe c.in-If.otherwise)) (c.in_ok-branches-in-If.ensures.scope ∙ kept) in
    let whole = ap (taken (Going f3)) pO
    ∙ sym (until ∙ ap (λ t. taken t O) (sym (ap (taken (Going f2)) pB) ∙ c.in_ok-branches-in-If.ensures.taken)) in
    carry_heavy c.resolve_optional.result f0 f3 (expr_steps file sc (view c.args.e.now))
    (maybe_steps file (entries_of c.branches.new.scope) (maybe c.in-If.otherwise)) whole c.resolve_optional.ensures.heavy
