use Rattle.std.proofs.Common.{◌≡◌, map, string_bytes, take}
use Rattle.report.specs.Pieces.{file_of}
use Rattle.report.proofs.compact.files.Given as goal

-- those so far
abbrev pub invariant-loop-file : goal.invariant-loop-file
invariant-loop-file l = l.told ≡ map (file_of (map string_bytes l.names)) (take l.file-index l.files)
