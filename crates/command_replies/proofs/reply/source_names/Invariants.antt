use Rattle.std.proofs.Common.{◌≡◌, ◌++◌, map, string_bytes, drop}
use Rattle.rotor_base.specs.Files.{names_of}
use Rattle.command_replies.proofs.reply.source_names.Given as goal

-- with the files that are left, the names are those of all of them
abbrev pub invariant-loop-file : goal.invariant-loop-file
invariant-loop-file l = map string_bytes l.names.items ++ names_of (drop l.file-index l.files) ≡ names_of l.files
