-- The sources so far, and then those that are left, are those of the map.
use Rattle.std.proofs.Common.{◌≡◌, ◌++◌, map, string_bytes}
use Rattle.std.specs.BTreeMap.{keys}
use Rattle.project_load.proofs.entries.Entries.sources.Given as goal

abbrev pub invariant-loop-source : goal.invariant-loop-source
invariant-loop-source l = map string_bytes l.sources.items ++ map string_bytes l.source-iterator ≡ map string_bytes (keys l.self.files)
