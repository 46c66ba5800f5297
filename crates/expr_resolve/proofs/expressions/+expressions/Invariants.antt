use Rattle.std.proofs.Common.{◌≡◌, ◌≤◌, drop, take, length}
use Rattle.ml_trees.specs.View.{links, ops, bindings, cases, arguments, params, parts, fields}
use Rattle.shape_core.specs.Shape.{◌⊕◌}
use Rattle.shape_core.specs.Node.{entries_of}
use Rattle.binding_model.specs.Scopes.{params_bound}
use Rattle.binding_model.specs.Taken.{taken, Going}
use Rattle.binding_model.specs.Walk.{links_steps, bindings_steps, cases_steps, arguments_steps, params_steps, parts_steps, fields_steps}
use Rattle.expr_resolve.specs.Branches.{branches_steps}
use Rattle.expr_resolve.proofs.expressions.+expressions.Given as goal

abbrev pub invariant-expressions-loop-part : goal.invariant-expressions-loop-part
invariant-expressions-loop-part l =
    (taken (Going l.found) (links_steps l.file (entries_of l.scope) (links (drop l.part-index l.list))) ≡ taken (Going l.fn.found)
    (links_steps l.file (entries_of l.fn.scope) (links l.list)))
    × (l.scope ≡ l.fn.scope)

abbrev pub invariant-operands-loop-part : goal.invariant-operands-loop-part
invariant-operands-loop-part l =
    (taken (Going l.found) (links_steps l.file (entries_of l.scope) (ops (drop l.part-index l.list))) ≡ taken (Going l.fn.found)
    (links_steps l.file (entries_of l.fn.scope) (ops l.list)))
    × (l.scope ≡ l.fn.scope)

abbrev pub invariant-all_arguments-loop-part : goal.invariant-all_arguments-loop-part
invariant-all_arguments-loop-part l =
    (taken (Going l.found) (arguments_steps l.file (entries_of l.scope) (arguments (drop l.part-index l.list))) ≡ taken (Going l.fn.found)
    (arguments_steps l.file (entries_of l.fn.scope) (arguments l.list)))
    × (l.scope ≡ l.fn.scope)

abbrev pub invariant-all_parts-loop-part : goal.invariant-all_parts-loop-part
invariant-all_parts-loop-part l =
    (taken (Going l.found) (parts_steps l.file (entries_of l.scope) (parts (drop l.part-index l.list))) ≡ taken (Going l.fn.found)
    (parts_steps l.file (entries_of l.fn.scope) (parts l.list)))
    × (l.scope ≡ l.fn.scope)

abbrev pub invariant-more_fields-loop-part : goal.invariant-more_fields-loop-part
invariant-more_fields-loop-part l =
    (taken (Going l.found) (fields_steps l.file (entries_of l.scope) (fields (drop l.part-index l.list))) ≡ taken (Going l.fn.found)
    (fields_steps l.file (entries_of l.fn.scope) (fields l.list)))
    × (l.scope ≡ l.fn.scope)

abbrev pub invariant-branches-loop-part : goal.invariant-branches-loop-part
invariant-branches-loop-part l =
    (taken (Going l.found) (branches_steps l.file (entries_of l.scope) (drop l.part-index l.list)) ≡ taken (Going l.fn.found)
    (branches_steps l.file (entries_of l.fn.scope) l.list))
    × (l.scope ≡ l.fn.scope)

abbrev pub invariant-more_cases-loop-part : goal.invariant-more_cases-loop-part
invariant-more_cases-loop-part l =
    (taken (Going l.found) (cases_steps l.file (entries_of l.scope) (cases (drop l.part-index l.list))) ≡ taken (Going l.fn.found)
    (cases_steps l.file (entries_of l.fn.scope) (cases l.list)))
    × (l.scope ≡ l.fn.scope)

abbrev pub invariant-more_bindings-loop-part : goal.invariant-more_bindings-loop-part
invariant-more_bindings-loop-part l =
    (taken (Going l.found) (bindings_steps l.file (entries_of l.scope) (bindings (drop l.part-index l.list))) ≡ taken (Going l.fn.found)
    (bindings_steps l.file (entries_of l.fn.scope) (bindings l.list)))
    × (l.scope ≡ l.fn.scope)

abbrev pub invariant-parameters-loop-part : goal.invariant-parameters-loop-part
invariant-parameters-loop-part l =
    (taken (Going l.found) (params_steps l.file (entries_of l.scope) (params (drop l.part-index l.list))) ≡ taken (Going l.fn.found)
    (params_steps l.file (entries_of l.fn.scope) (params l.list)))
    × (take (length l.fn.scope) l.scope ≡ l.fn.scope) × (length l.fn.scope ≤ length l.scope)
    × (entries_of l.scope ⊕ params_bound l.file (params (drop l.part-index l.list)) ≡ entries_of l.fn.scope ⊕ params_bound l.file (params l.list))
