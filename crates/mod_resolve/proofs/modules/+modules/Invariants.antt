use Rattle.std.proofs.Common.{◌≡◌, ◌≤◌, ◌++◌, drop, take, length}
use Rattle.ml_trees.specs.View.{mod_arguments, functor_params, items, sig_items}
use Rattle.shape_core.specs.Shape.{◌⊕◌}
use Rattle.shape_core.specs.Node.{entries_of}
use Rattle.binding_model.specs.Scopes.{applied_all, params_in, entries, sig_entries}
use Rattle.binding_model.specs.Taken.{taken, Going}
use Rattle.binding_model.specs.Walk.{mod_arguments_steps, functor_steps, items_steps, sig_items_steps}
use Rattle.module_entries.specs.Given.{given_shapes}
use Rattle.mod_resolve.proofs.modules.+modules.Given as goal

abbrev pub invariant-applications-loop-part : goal.invariant-applications-loop-part
invariant-applications-loop-part l =
    (taken (Going l.found) (mod_arguments_steps l.file (entries_of l.scope) l.shape (mod_arguments (drop l.part-index l.list))) ≡ taken
    (Going l.fn.found) (mod_arguments_steps l.file (entries_of l.fn.scope) l.fn.function (mod_arguments l.list)))
    × (applied_all l.shape (mod_arguments (drop l.part-index l.list)) ≡ applied_all l.fn.function (mod_arguments l.list))
    × (l.scope ≡ l.fn.scope)

abbrev pub invariant-functor_params-loop-part : goal.invariant-functor_params-loop-part
invariant-functor_params-loop-part l =
    (taken (Going l.found) (functor_steps l.file (entries_of l.scope) (functor_params (drop l.part-index l.list))) ≡ taken (Going l.fn.found)
    (functor_steps l.file (entries_of l.fn.scope) (functor_params l.list)))
    × (l.given.items ++ given_shapes l.file (entries_of l.scope) (functor_params (drop l.part-index l.list)) ≡ given_shapes l.file
    (entries_of l.fn.scope) (functor_params l.list))
    × (entries_of l.scope ⊕ params_in l.file (entries_of l.scope) (functor_params (drop l.part-index l.list)) ≡ entries_of l.fn.scope
    ⊕ params_in l.file (entries_of l.fn.scope) (functor_params l.list))
    × (take (length l.fn.scope) l.scope ≡ l.fn.scope) × (length l.fn.scope ≤ length l.scope)

abbrev pub invariant-all_items-loop-part : goal.invariant-all_items-loop-part
invariant-all_items-loop-part l =
    (taken (Going l.found) (items_steps l.file (entries_of l.scope) (items (drop l.part-index l.list))) ≡ taken (Going l.fn.found)
    (items_steps l.file (entries_of l.fn.scope) (items l.list)))
    × (entries_of l.made.items ⊕ entries l.file (entries_of l.scope) (items (drop l.part-index l.list)) ≡ entries l.file (entries_of l.fn.scope)
    (items l.list))
    × (take (length l.fn.scope) l.scope ≡ l.fn.scope) × (length l.fn.scope ≤ length l.scope)

abbrev pub invariant-all_sig_items-loop-part : goal.invariant-all_sig_items-loop-part
invariant-all_sig_items-loop-part l =
    (taken (Going l.found) (sig_items_steps l.file (entries_of l.scope) (sig_items (drop l.part-index l.list))) ≡ taken (Going l.fn.found)
    (sig_items_steps l.file (entries_of l.fn.scope) (sig_items l.list)))
    × (entries_of l.made.items ⊕ sig_entries l.file (entries_of l.scope) (sig_items (drop l.part-index l.list)) ≡ sig_entries l.file
    (entries_of l.fn.scope) (sig_items l.list))
    × (take (length l.fn.scope) l.scope ≡ l.fn.scope) × (length l.fn.scope ≤ length l.scope)
