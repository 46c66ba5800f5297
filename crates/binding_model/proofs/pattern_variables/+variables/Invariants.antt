use Rattle.std.proofs.Common.{◌≡◌, ◌++◌, drop, map}
use Rattle.ml_trees.specs.View.{pats, pat_fields}
use Rattle.value_sites.specs.Places.{mark}
use Rattle.binding_model.specs.Variables.{pats_variables, fields_variables}
use Rattle.binding_model.proofs.pattern_variables.+variables.Given as goal

abbrev pub invariant-patterns-loop-part : goal.invariant-patterns-loop-part
invariant-patterns-loop-part l = l.marks.items ++ map mark (pats_variables (pats (drop l.part-index l.list))) ≡ l.fn.marks.items ++ map mark
    (pats_variables (pats l.list))

abbrev pub invariant-fields-loop-part : goal.invariant-fields-loop-part
invariant-fields-loop-part l = l.marks.items ++ map mark (fields_variables (pat_fields (drop l.part-index l.list))) ≡ l.fn.marks.items ++ map mark
    (fields_variables (pat_fields l.list))
