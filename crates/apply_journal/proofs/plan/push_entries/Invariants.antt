use Rattle.std.proofs.Common.{◌≡◌, ◌++◌, take, flat_map}
use Rattle.apply_journal.specs.Plan.{plan_entry}
use Rattle.apply_journal.proofs.plan.push_entries.Given as goal

-- the files so far are added
abbrev pub invariant-loop-file : goal.invariant-loop-file
invariant-loop-file l = l.text.items ≡ l.initial.text.items ++ flat_map plan_entry (take l.file-index l.files)
