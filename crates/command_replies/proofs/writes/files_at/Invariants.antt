use Rattle.std.proofs.Common.{◌≡◌, ◌++◌, drop}
use Rattle.project_load.specs.Rewritten.{files_at}
use Rattle.command_replies.proofs.writes.files_at.Given as goal

-- with the numbers that are left, the files are those of all of them
abbrev pub invariant-loop-number : goal.invariant-loop-number
invariant-loop-number l = l.found ++ files_at l.files (drop l.number-index l.numbers) ≡ files_at l.files l.numbers
