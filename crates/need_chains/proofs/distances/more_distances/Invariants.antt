use Rattle.std.proofs.Common.{◌≡◌, ◌++◌, drop, map}
use Rattle.need_chains.specs.Distances.{farther}
use Rattle.need_chains.proofs.distances.more_distances.Given as goal

-- the distances so far and those of what is left are all
abbrev pub invariant-loop-row : goal.invariant-loop-row
invariant-loop-row l =
    l.more.items ++ farther l.needs l.distances (map (λ row. row.items) (drop l.row-index l.table)) l.left
    ≡ farther l.needs l.distances (map (λ row. row.items) l.table) l.distances
