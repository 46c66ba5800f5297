use Rattle.std.proofs.Common.{◌≡◌, take, vec_len}
use Rattle.unit_heads.specs.Counts.{AreCounts}
use Rattle.unit_heads.proofs.bound.Bound.cut.Given as goal

abbrev pub invariant-loop-self : goal.invariant-loop-self
invariant-loop-self l =
    (take l.len l.self-inside.names.items ≡ take l.len l.fn.self)
    × AreCounts l.self-inside.counts l.self-inside.names.items

abbrev pub decreases-loop-self : goal.decreases-loop-self
decreases-loop-self l = vec_len l.self-inside.names
