use Rattle.std.proofs.Common.{◌≡◌, map, string_bytes, take}
use Rattle.rotor_base.specs.Files.{names_of}
use Rattle.query_failures.proofs.folder.names_of.Given as goal

-- the names so far
abbrev pub invariant-loop-source : goal.invariant-loop-source
invariant-loop-source l = map string_bytes l.names.items ≡ names_of (take l.source-index l.sources)
