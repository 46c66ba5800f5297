use Rattle.std.proofs.Common.{◌≡◌, drop}
use Rattle.ml_trees.specs.View.{mod_arguments, functor_params, items, sig_items}
use Rattle.tree_events.specs.Told.{mod_arguments_told, functor_params_told, items_told, sig_items_told}
use Rattle.tree_walk.proofs.modules.+module_walk.Given as goal

abbrev pub invariant-all_arguments-loop-part : goal.invariant-all_arguments-loop-part
invariant-all_arguments-loop-part g l =
    mod_arguments_told g.V.Visitor.step (g.V.Visitor.state l.visitor) (mod_arguments (drop l.part-index l.list))
    ≡ mod_arguments_told g.V.Visitor.step (g.V.Visitor.state l.fn.visitor) (mod_arguments l.list)

abbrev pub invariant-scope_with-loop-part : goal.invariant-scope_with-loop-part
invariant-scope_with-loop-part g l =
    functor_params_told g.V.Visitor.step (g.V.Visitor.state l.visitor) (functor_params (drop l.part-index l.list))
    ≡ functor_params_told g.V.Visitor.step (g.V.Visitor.state l.initial.visitor) (functor_params l.list)

abbrev pub invariant-body-loop-part : goal.invariant-body-loop-part
invariant-body-loop-part g l =
    items_told g.V.Visitor.step (g.V.Visitor.state l.visitor) (items (drop l.part-index l.list))
    ≡ items_told g.V.Visitor.step (g.V.Visitor.state l.fn.visitor) (items l.list)

abbrev pub invariant-face-loop-part : goal.invariant-face-loop-part
invariant-face-loop-part g l =
    sig_items_told g.V.Visitor.step (g.V.Visitor.state l.visitor) (sig_items (drop l.part-index l.list))
    ≡ sig_items_told g.V.Visitor.step (g.V.Visitor.state l.fn.visitor) (sig_items l.list)
