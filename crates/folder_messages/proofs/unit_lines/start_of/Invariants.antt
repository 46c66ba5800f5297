use Rattle.std.proofs.Common.{◌≡◌, ◌+◌, drop}
use Rattle.folder_messages.specs.Folder.{start_of}
use Rattle.folder_messages.proofs.unit_lines.start_of.Given as goal

-- the lines that are left begin here
abbrev pub invariant-loop-at : goal.invariant-loop-at
invariant-loop-at l = l.at + start_of l.left (drop l.at l.bytes) ≡ start_of l.before l.bytes
