use Rattle.std.proofs.Common.{◌≡◌, Some, None, cond, map, take}
use Rattle.std.specs.Str.{bytes_eq}
use Rattle.need_chains.proofs.distances.first_distances.Given as goal

-- the distances so far
abbrev pub invariant-loop-source : goal.invariant-loop-source
invariant-loop-source l = l.distances.items ≡ map (λ s. cond (bytes_eq s.unit l.unit) (Some 0) None) (take l.source-index l.sources)
