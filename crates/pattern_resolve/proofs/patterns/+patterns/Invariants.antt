use Rattle.std.proofs.Common.{◌≡◌, drop}
use Rattle.ml_trees.specs.View.{pats, pat_fields}
use Rattle.binding_model.specs.Taken.{taken, Going}
use Rattle.binding_model.specs.Walk.{pats_steps, fields_pat_steps}
use Rattle.pattern_resolve.proofs.patterns.+patterns.Given as goal

abbrev pub invariant-patterns-loop-part : goal.invariant-patterns-loop-part
invariant-patterns-loop-part l = taken (Going l.found) (pats_steps l.file (pats (drop l.part-index l.list))) ≡ taken (Going l.fn.found)
    (pats_steps l.file (pats l.list))

abbrev pub invariant-fields-loop-part : goal.invariant-fields-loop-part
invariant-fields-loop-part l = taken (Going l.found) (fields_pat_steps l.file (pat_fields (drop l.part-index l.list))) ≡ taken (Going l.fn.found)
    (fields_pat_steps l.file (pat_fields l.list))
