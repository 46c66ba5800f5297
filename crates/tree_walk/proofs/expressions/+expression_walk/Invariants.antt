use Rattle.std.proofs.Common.{◌≡◌, drop}
use Rattle.ml_trees.specs.View.{links, commas, ops, tail_before, otherwise, bindings, cases, arguments, params, parts, fields}
use Rattle.tree_events.specs.Told.{links_told, bindings_told, cases_told, arguments_told, params_told, parts_told, fields_told}
use Rattle.tree_events.proofs.Tells.{tail_told}
use Rattle.tree_walk.proofs.expressions.+expression_walk.Given as goal

abbrev pub invariant-steps-loop-e : goal.invariant-steps-loop-e
invariant-steps-loop-e g l =
    links_told g.V.Visitor.step (g.V.Visitor.state l.visitor) (links (drop l.e-index l.list))
    ≡ links_told g.V.Visitor.step (g.V.Visitor.state l.fn.visitor) (links l.list)

abbrev pub invariant-components-loop-e : goal.invariant-components-loop-e
invariant-components-loop-e g l =
    links_told g.V.Visitor.step (g.V.Visitor.state l.visitor) (commas (drop l.e-index l.list))
    ≡ links_told g.V.Visitor.step (g.V.Visitor.state l.fn.visitor) (commas l.list)

abbrev pub invariant-operands-loop-link : goal.invariant-operands-loop-link
invariant-operands-loop-link g l =
    links_told g.V.Visitor.step (g.V.Visitor.state l.visitor) (ops (drop l.link-index l.list))
    ≡ links_told g.V.Visitor.step (g.V.Visitor.state l.fn.visitor) (ops l.list)

abbrev pub invariant-expression-loop-branch : goal.invariant-expression-loop-branch
invariant-expression-loop-branch g l =
    tail_told g.V.Visitor.step (g.V.Visitor.state l.visitor) (tail_before (otherwise l.otherwise) (drop l.branch-index l.branch-items))
    ≡ tail_told g.V.Visitor.step (g.V.Visitor.state l.initial.visitor) (tail_before (otherwise l.otherwise) l.branch-items)

abbrev pub invariant-more_bindings-loop-part : goal.invariant-more_bindings-loop-part
invariant-more_bindings-loop-part g l =
    bindings_told g.V.Visitor.step (g.V.Visitor.state l.visitor) (bindings (drop l.part-index l.list))
    ≡ bindings_told g.V.Visitor.step (g.V.Visitor.state l.fn.visitor) (bindings l.list)

abbrev pub invariant-more_cases-loop-part : goal.invariant-more_cases-loop-part
invariant-more_cases-loop-part g l =
    cases_told g.V.Visitor.step (g.V.Visitor.state l.visitor) (cases (drop l.part-index l.list))
    ≡ cases_told g.V.Visitor.step (g.V.Visitor.state l.fn.visitor) (cases l.list)

abbrev pub invariant-all_arguments-loop-part : goal.invariant-all_arguments-loop-part
invariant-all_arguments-loop-part g l =
    arguments_told g.V.Visitor.step (g.V.Visitor.state l.visitor) (arguments (drop l.part-index l.list))
    ≡ arguments_told g.V.Visitor.step (g.V.Visitor.state l.fn.visitor) (arguments l.list)

abbrev pub invariant-parameters-loop-part : goal.invariant-parameters-loop-part
invariant-parameters-loop-part g l =
    params_told g.V.Visitor.step (g.V.Visitor.state l.visitor) (params (drop l.part-index l.list))
    ≡ params_told g.V.Visitor.step (g.V.Visitor.state l.fn.visitor) (params l.list)

abbrev pub invariant-all_parts-loop-one : goal.invariant-all_parts-loop-one
invariant-all_parts-loop-one g l =
    parts_told g.V.Visitor.step (g.V.Visitor.state l.visitor) (parts (drop l.one-index l.list))
    ≡ parts_told g.V.Visitor.step (g.V.Visitor.state l.fn.visitor) (parts l.list)

abbrev pub invariant-more_fields-loop-part : goal.invariant-more_fields-loop-part
invariant-more_fields-loop-part g l =
    fields_told g.V.Visitor.step (g.V.Visitor.state l.visitor) (fields (drop l.part-index l.list))
    ≡ fields_told g.V.Visitor.step (g.V.Visitor.state l.fn.visitor) (fields l.list)
