use Rattle.std.proofs.Common.{◌≡◌, drop}
use Rattle.ml_trees.specs.View.{bindings}
use Rattle.shape_core.specs.Shape.{◌⊕◌}
use Rattle.shape_core.specs.Node.{entries_of}
use Rattle.binding_model.specs.Scopes.{bound}
use Rattle.binding_model.specs.Variables.{bindings_variables}
use Rattle.pattern_resolve.proofs.values.more_values.Given as goal

abbrev pub invariant-loop-part : goal.invariant-loop-part
invariant-loop-part l = entries_of l.made.items ⊕ bound l.file (bindings_variables (bindings (drop l.part-index l.list))) ≡ entries_of l.fn.made.items
    ⊕ bound l.file (bindings_variables (bindings l.list))
