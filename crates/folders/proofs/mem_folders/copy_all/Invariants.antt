-- The copies so far.
use Rattle.std.proofs.Common.{◌≡◌, take}
use Rattle.folders.proofs.mem_folders.copy_all.Given as goal

abbrev pub invariant-loop-file : goal.invariant-loop-file
invariant-loop-file l = l.copies.items ≡ take l.file-index l.files
