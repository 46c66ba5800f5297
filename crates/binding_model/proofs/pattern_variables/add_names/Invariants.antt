use Rattle.std.proofs.Common.{◌≡◌, ◌++◌, drop, map}
use Rattle.ml_trees.specs.View.{view_names}
use Rattle.value_sites.specs.Places.{mark}
use Rattle.binding_model.specs.Variables.{names}
use Rattle.binding_model.proofs.pattern_variables.add_names.Given as goal

abbrev pub invariant-loop-name : goal.invariant-loop-name
invariant-loop-name l = l.marks.items ++ map mark (names (view_names (drop l.name-index l.list))) ≡ l.fn.marks.items ++ map mark
    (names (view_names l.list))
