use Rattle.std.proofs.Common.{◌≡◌, take, length}
use Rattle.rename_parts.specs.Sources.{AreMade}
use Rattle.rename_files.proofs.judge.new_sources.Given as goal

-- the new sources of those so far
abbrev pub invariant-loop-at : goal.invariant-loop-at
invariant-loop-at l = record {
  count : length l.sources.items ≡ l.at;
  made : AreMade l.set l.new 0 (take l.at l.entries) l.sources.items;
}
