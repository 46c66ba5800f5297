use Rattle.std.proofs.Common.{◌≡◌, ◌++◌, drop}
use Rattle.rename_model.specs.Report.{hit_files}
use Rattle.rename_parts.proofs.sources.changed_files.Given as goal

-- with those of the sources that are left, they are all
abbrev pub invariant-loop-source : goal.invariant-loop-source
invariant-loop-source l = record {
  count : l.number ≡ l._source-index;
  left : l.numbers.items ++ hit_files l.places l._source-index (drop l._source-index l.sources) ≡ hit_files l.places 0 l.sources;
}
