use Rattle.std.proofs.Common.{◌≡◌, map, take}
use Rattle.refusal_words.specs.Cut.{view_cut}
use Rattle.refusal_places.specs.Heads.{cut_heads}
use Rattle.refusal_places.proofs.heads.all_heads.Given as goal

-- the heads so far
abbrev pub invariant-loop-cut : goal.invariant-loop-cut
invariant-loop-cut l = l.heads.items ≡ map cut_heads (map view_cut (take l.cut-index l.cuts))
