use Rattle.std.proofs.Common.{◌&&◌, nat_le, ap, sym, ◌∙◌}
use Rattle.ml_trees.specs.View.{view, view_binding, view_case, view_field, bindings, cases, fields, otherwise, tail_before}
use Rattle.expr_levels.specs.Height.{height, inside, binding_height, bindings_height, case_height, cases_height, field_height, fields_height}
use Rattle.expr_levels.specs.Height.{tail_height}
use Rattle.ml_trees.proofs.Variants.{at_expr_let, at_expr_match, at_expr_try, at_expr_record, at_expr_if}
use Rattle.expr_levels.proofs.Heights.{second_fails, third_decides, otherwise_height}
use Rattle.expr_levels.proofs.levels.+levels.Goals as goal

pub inside_fits-returns-then-not-bindings_fit : goal.inside_fits-returns-then-not-bindings_fit
inside_fits-returns-then-not-bindings_fit t c =
    let k = c.args.levels in
    let shape = ap (λ e. nat_le (inside e) k)
    (ap view c.in-Let.is ∙ at_expr_let c.in-Let.at c.in-Let.recursive c.in-Let.first c.in-Let.rest c.in-Let.body) in
    let first = ap (λ x. nat_le (binding_height (view_binding x)) k) (sym c.deref-in-Let.ensures) ∙ sym c.binding_fits.ensures
    ∙ c.if-not-binding_fits.false in
    let second = ap (λ x. nat_le (bindings_height (bindings x)) k) (sym c.deref-in-Let-2.ensures.value) ∙ sym c.bindings_fit.ensures
    ∙ c.if-not-bindings_fit.true in
    second_fails _ _ (height (view c.in-Let.body.value)) k first second ∙ sym shape

pub inside_fits-returns-else-not-bindings_fit : goal.inside_fits-returns-else-not-bindings_fit
inside_fits-returns-else-not-bindings_fit t c =
    let k = c.args.levels in
    let shape = ap (λ e. nat_le (inside e) k)
    (ap view c.in-Let.is ∙ at_expr_let c.in-Let.at c.in-Let.recursive c.in-Let.first c.in-Let.rest c.in-Let.body) in
    let first = ap (λ x. nat_le (binding_height (view_binding x)) k) (sym c.deref-in-Let.ensures) ∙ sym c.binding_fits.ensures
    ∙ c.if-not-binding_fits.false in
    let second = ap (λ x. nat_le (bindings_height (bindings x)) k) (sym c.deref-in-Let-2.ensures.value) ∙ sym c.bindings_fit.ensures
    ∙ c.if-not-bindings_fit.false in
    let third = c.fits-in-Let.ensures ∙ ap (λ x. nat_le (height (view x)) k) c.deref-in-Let-3.ensures in
    third_decides _ _ _ k _ first second third ∙ sym shape

pub inside_fits-returns-then-not-case_fits : goal.inside_fits-returns-then-not-case_fits
inside_fits-returns-then-not-case_fits t c =
    let k = c.args.levels in
    let shape = ap (λ e. nat_le (inside e) k)
    (ap view c.in-Match.is ∙ at_expr_match c.in-Match.at c.in-Match.subject c.in-Match.bar c.in-Match.first c.in-Match.rest) in
    let first = ap (λ x. nat_le (height (view x)) k) (sym c.deref-in-Match.ensures) ∙ sym c.fits-in-Match.ensures ∙ c.if-not-fits.false in
    let second = ap (λ x. nat_le (case_height (view_case x)) k) (sym c.deref-in-Match-2.ensures) ∙ sym c.case_fits-in-Match.ensures
    ∙ c.if-not-case_fits.true in
    second_fails _ _ (cases_height (cases c.in-Match.rest.items)) k first second ∙ sym shape

pub inside_fits-returns-else-not-case_fits : goal.inside_fits-returns-else-not-case_fits
inside_fits-returns-else-not-case_fits t c =
    let k = c.args.levels in
    let shape = ap (λ e. nat_le (inside e) k)
    (ap view c.in-Match.is ∙ at_expr_match c.in-Match.at c.in-Match.subject c.in-Match.bar c.in-Match.first c.in-Match.rest) in
    let first = ap (λ x. nat_le (height (view x)) k) (sym c.deref-in-Match.ensures) ∙ sym c.fits-in-Match.ensures ∙ c.if-not-fits.false in
    let second = ap (λ x. nat_le (case_height (view_case x)) k) (sym c.deref-in-Match-2.ensures) ∙ sym c.case_fits-in-Match.ensures
    ∙ c.if-not-case_fits.false in
    let third = c.cases_fit-in-Match.ensures ∙ ap (λ x. nat_le (cases_height (cases x)) k) c.deref-in-Match-3.ensures.value in
    third_decides _ _ _ k _ first second third ∙ sym shape

pub inside_fits-returns-then-not-case_fits-2 : goal.inside_fits-returns-then-not-case_fits-2
inside_fits-returns-then-not-case_fits-2 t c =
    let k = c.args.levels in
    let shape = ap (λ e. nat_le (inside e) k)
    (ap view c.in-Try.is ∙ at_expr_try c.in-Try.at c.in-Try.subject c.in-Try.bar c.in-Try.first c.in-Try.rest) in
    let first = ap (λ x. nat_le (height (view x)) k) (sym c.deref-in-Try.ensures) ∙ sym c.fits-in-Try.ensures ∙ c.if-not-fits-2.false in
    let second = ap (λ x. nat_le (case_height (view_case x)) k) (sym c.deref-in-Try-2.ensures) ∙ sym c.case_fits-in-Try.ensures
    ∙ c.if-not-case_fits-2.true in
    second_fails _ _ (cases_height (cases c.in-Try.rest.items)) k first second ∙ sym shape

pub inside_fits-returns-else-not-case_fits-2 : goal.inside_fits-returns-else-not-case_fits-2
inside_fits-returns-else-not-case_fits-2 t c =
    let k = c.args.levels in
    let shape = ap (λ e. nat_le (inside e) k)
    (ap view c.in-Try.is ∙ at_expr_try c.in-Try.at c.in-Try.subject c.in-Try.bar c.in-Try.first c.in-Try.rest) in
    let first = ap (λ x. nat_le (height (view x)) k) (sym c.deref-in-Try.ensures) ∙ sym c.fits-in-Try.ensures ∙ c.if-not-fits-2.false in
    let second = ap (λ x. nat_le (case_height (view_case x)) k) (sym c.deref-in-Try-2.ensures) ∙ sym c.case_fits-in-Try.ensures
    ∙ c.if-not-case_fits-2.false in
    let third = c.cases_fit-in-Try.ensures ∙ ap (λ x. nat_le (cases_height (cases x)) k) c.deref-in-Try-3.ensures.value in
    third_decides _ _ _ k _ first second third ∙ sym shape

pub inside_fits-returns-then-not-branches_fit : goal.inside_fits-returns-then-not-branches_fit
inside_fits-returns-then-not-branches_fit t c =
    let k = c.args.levels in
    let shape = ap (λ e. nat_le (inside e) k) (ap view c.in-If.is ∙ at_expr_if c.in-If.at c.in-If.test c.in-If.then c.in-If.more c.in-If.otherwise) in
    let first = ap (λ x. nat_le (height (view x)) k) (sym c.deref-in-If.ensures) ∙ sym c.fits-in-If.ensures ∙ c.if-not-fits-3.false in
    let second = ap (λ x. nat_le (height (view x)) k) (sym c.deref-in-If-2.ensures) ∙ sym c.fits-in-If-2.ensures ∙ c.if-not-fits-4.false in
    let others = otherwise c.in-If.otherwise in
    let branches = ap (λ x. nat_le (tail_height (tail_before others x)) k) (sym c.deref-in-If-3.ensures.value) ∙ c.branches_fit.ensures others
    ∙ ap (λ b. b && nat_le (tail_height others) k) c.if-not-branches_fit.true in
    third_decides _ _ _ k _ first second (sym branches) ∙ sym shape

pub inside_fits-returns-else-not-branches_fit : goal.inside_fits-returns-else-not-branches_fit
inside_fits-returns-else-not-branches_fit t c =
    let k = c.args.levels in
    let shape = ap (λ e. nat_le (inside e) k) (ap view c.in-If.is ∙ at_expr_if c.in-If.at c.in-If.test c.in-If.then c.in-If.more c.in-If.otherwise) in
    let first = ap (λ x. nat_le (height (view x)) k) (sym c.deref-in-If.ensures) ∙ sym c.fits-in-If.ensures ∙ c.if-not-fits-3.false in
    let second = ap (λ x. nat_le (height (view x)) k) (sym c.deref-in-If-2.ensures) ∙ sym c.fits-in-If-2.ensures ∙ c.if-not-fits-4.false in
    let others = otherwise c.in-If.otherwise in
    let branches = ap (λ x. nat_le (tail_height (tail_before others x)) k) (sym c.deref-in-If-3.ensures.value) ∙ c.branches_fit.ensures others
    ∙ ap (λ b. b && nat_le (tail_height others) k) c.if-not-branches_fit.false in
    let third = c.maybe_fits.ensures ∙ ap (λ h. nat_le h k) (otherwise_height c.in-If.otherwise) ∙ sym branches in
    third_decides _ _ _ k _ first second third ∙ sym shape

pub inside_fits-returns-else-not-field_fits : goal.inside_fits-returns-else-not-field_fits
inside_fits-returns-else-not-field_fits t c =
    let k = c.args.levels in
    let shape = ap (λ e. nat_le (inside e) k)
    (ap view c.in-Record.is ∙ at_expr_record c.in-Record.at c.in-Record.base c.in-Record.first c.in-Record.rest c.in-Record.last) in
    let first = sym c.maybe_fits-in-Record.ensures ∙ c.if-not-maybe_fits.false in
    let second = ap (λ x. nat_le (field_height (view_field x)) k) (sym c.deref-in-Record.ensures) ∙ sym c.field_fits.ensures
    ∙ c.if-not-field_fits.false in
    let third = c.fields_fit.ensures ∙ ap (λ x. nat_le (fields_height (fields x)) k) c.deref-in-Record-2.ensures.value in
    third_decides _ _ _ k _ first second third ∙ sym shape
