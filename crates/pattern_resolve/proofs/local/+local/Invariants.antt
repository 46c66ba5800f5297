use Rattle.std.proofs.Common.{◌≡◌, drop}
use Rattle.ml_trees.specs.View.{locals}
use Rattle.shape_core.specs.Node.{entries_of}
use Rattle.binding_model.specs.Scopes.{local_applied}
use Rattle.binding_model.specs.Taken.{taken, Going}
use Rattle.binding_model.specs.Walk.{locals_steps}
use Rattle.pattern_resolve.proofs.local.+local.Given as goal

abbrev pub invariant-local_module-loop-part : goal.invariant-local_module-loop-part
invariant-local_module-loop-part l =
    (taken (Going l.found) (locals_steps (entries_of l.scope) l.shape (locals (drop l.part-index l.part-items)))
    ≡ taken (Going l.initial.found) (locals_steps (entries_of l.scope) l.initial.shape (locals l.part-items)))
    × (local_applied l.shape (locals (drop l.part-index l.part-items)) ≡ local_applied l.initial.shape (locals l.part-items))
