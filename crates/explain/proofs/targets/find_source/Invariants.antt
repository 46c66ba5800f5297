use Rattle.std.proofs.Common.{◌≡◌, drop, map}
use Rattle.refusal_words.specs.Cut.{view_cut}
use Rattle.explain.specs.Targets.{cut_from}
use Rattle.explain.proofs.targets.find_source.Given as goal

-- what is left decides, and the number is that of the next source
abbrev pub invariant-loop-cut : goal.invariant-loop-cut
invariant-loop-cut l = record {
  count : l.number ≡ l.cut-index;
  left : cut_from l.cut-index (map view_cut (drop l.cut-index l.cuts)) l.name ≡ cut_from 0 (map view_cut l.cuts) l.name;
}
