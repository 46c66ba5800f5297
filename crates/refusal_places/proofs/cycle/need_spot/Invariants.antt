use Rattle.std.proofs.Common.{◌≡◌, drop, map}
use Rattle.refusal_words.specs.Cut.{view_cut}
use Rattle.refusal_places.specs.Circle.{user_of}
use Rattle.refusal_places.specs.Heads.{cut_heads}
use Rattle.refusal_places.proofs.cycle.need_spot.Given as goal

-- what is left decides
abbrev pub invariant-loop-cut : goal.invariant-loop-cut
invariant-loop-cut l =
    user_of l.left (map view_cut (drop l.cut-index l.cuts)) l.unit l.name
    ≡ user_of (map cut_heads (map view_cut l.cuts)) (map view_cut l.cuts) l.unit l.name
