use Rattle.std.proofs.Common.{◌≡◌, nat_le, drop}
use Rattle.ml_trees.specs.Tree as pure
use Rattle.ml_trees.specs.View.{links, commas, ops, tail_before, bindings, cases, arguments, params, parts, fields}
use Rattle.expr_levels.specs.Height.{links_height, tail_height, bindings_height, cases_height, arguments_height, params_height, parts_height}
use Rattle.expr_levels.specs.Height.{fields_height}
use Rattle.expr_levels.proofs.levels.+levels.Given as goal

abbrev pub invariant-all_fit-loop-expr : goal.invariant-all_fit-loop-expr
invariant-all_fit-loop-expr l =
    (nat_le (links_height (links (drop l.expr-index l.list))) l.levels ≡ nat_le (links_height (links l.list)) l.levels)
    × (nat_le (links_height (commas (drop l.expr-index l.list))) l.levels ≡ nat_le (links_height (commas l.list)) l.levels)

abbrev pub invariant-operands_fit-loop-link : goal.invariant-operands_fit-loop-link
invariant-operands_fit-loop-link l = nat_le (links_height (ops (drop l.link-index l.list))) l.levels ≡ nat_le (links_height (ops l.list)) l.levels

abbrev pub invariant-branches_fit-loop-branch : goal.invariant-branches_fit-loop-branch
invariant-branches_fit-loop-branch l = (others : pure.Tail) → nat_le (tail_height (tail_before others (drop l.branch-index l.list))) l.levels ≡ nat_le
    (tail_height (tail_before others l.list)) l.levels

abbrev pub invariant-bindings_fit-loop-binding : goal.invariant-bindings_fit-loop-binding
invariant-bindings_fit-loop-binding l = nat_le (bindings_height (bindings (drop l.binding-index l.list))) l.levels ≡ nat_le
    (bindings_height (bindings l.list)) l.levels

abbrev pub invariant-cases_fit-loop-case : goal.invariant-cases_fit-loop-case
invariant-cases_fit-loop-case l = nat_le (cases_height (cases (drop l.case-index l.list))) l.levels ≡ nat_le (cases_height (cases l.list)) l.levels

abbrev pub invariant-arguments_fit-loop-argument : goal.invariant-arguments_fit-loop-argument
invariant-arguments_fit-loop-argument l = nat_le (arguments_height (arguments (drop l.argument-index l.list))) l.levels ≡ nat_le
    (arguments_height (arguments l.list)) l.levels

abbrev pub invariant-params_fit-loop-param : goal.invariant-params_fit-loop-param
invariant-params_fit-loop-param l = nat_le (params_height (params (drop l.param-index l.list))) l.levels ≡ nat_le
    (params_height (params l.list)) l.levels

abbrev pub invariant-parts_fit-loop-part : goal.invariant-parts_fit-loop-part
invariant-parts_fit-loop-part l = nat_le (parts_height (parts (drop l.part-index l.list))) l.levels ≡ nat_le (parts_height (parts l.list)) l.levels

abbrev pub invariant-fields_fit-loop-field : goal.invariant-fields_fit-loop-field
invariant-fields_fit-loop-field l = nat_le (fields_height (fields (drop l.field-index l.list))) l.levels ≡ nat_le
    (fields_height (fields l.list)) l.levels
