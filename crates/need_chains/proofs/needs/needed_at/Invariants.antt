use Rattle.std.proofs.Common.{◌≡◌, ◌++◌, drop, map}
use Rattle.need_chains.specs.Marks.{marked_at}
use Rattle.need_chains.specs.Needs.{needs}
use Rattle.need_chains.proofs.needs.needed_at.Given as goal

-- the marks so far and those of what is left are all
abbrev pub invariant-loop-source : goal.invariant-loop-source
invariant-loop-source l =
    l.marks.items ++ marked_at l.needs (map (λ s. needs l.sources l.unit s.unit) (drop l.source-index l.sources)) l.left
    ≡ marked_at l.needs (map (λ s. needs l.sources l.unit s.unit) l.sources) l.distances
