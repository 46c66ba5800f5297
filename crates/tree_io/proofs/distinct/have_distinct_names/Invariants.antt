use Rattle.std.proofs.Common.{◌≡◌, map, drop}
use Rattle.tree_io.specs.Slots.{are_distinct}
use Rattle.tree_io.proofs.distinct.have_distinct_names.Given as goal

abbrev pub invariant-loop-at : goal.invariant-loop-at
invariant-loop-at l = are_distinct (map (λ file. file.name) l.files) ≡ are_distinct (map (λ file. file.name) (drop l.at l.files))
