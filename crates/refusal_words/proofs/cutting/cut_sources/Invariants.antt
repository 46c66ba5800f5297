use Rattle.std.proofs.Common.{map, take}
use Rattle.refusal_words.specs.Cut.{AreCuts, view_cut}
use Rattle.refusal_words.proofs.cutting.cut_sources.Given as goal

-- the sources so far
abbrev pub invariant-loop-source : goal.invariant-loop-source
invariant-loop-source l = AreCuts (take l.source-index l.sources) (map view_cut l.cuts.items)
