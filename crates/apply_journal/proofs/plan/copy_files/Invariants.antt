use Rattle.std.proofs.Common.{◌≡◌, take}
use Rattle.project_load.specs.Rewritten.{files_at}
use Rattle.apply_journal.proofs.plan.copy_files.Given as goal

-- the files of the numbers so far are copied
abbrev pub invariant-loop-number : goal.invariant-loop-number
invariant-loop-number l = l.copies.items ≡ files_at l.files (take l.number-index l.numbers)
