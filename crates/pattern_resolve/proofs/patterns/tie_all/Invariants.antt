use Rattle.std.proofs.Common.{◌≡◌, drop}
use Rattle.ml_trees.specs.View.{pats}
use Rattle.shape_core.specs.Shape.{entries_in}
use Rattle.binding_model.specs.Taken.{taken, Going}
use Rattle.pattern_resolve.proofs.Lists.{ties_from}
use Rattle.pattern_resolve.proofs.patterns.tie_all.Given as goal

abbrev pub invariant-loop-part : goal.invariant-loop-part
invariant-loop-part l =
    taken (Going l.found) (ties_from l.file (entries_in l.before) (pats (drop l.part-index l.rest)))
    ≡ taken (Going l.initial.found) (ties_from l.file (entries_in l.initial.before) (pats l.rest))
