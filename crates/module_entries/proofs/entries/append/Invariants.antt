use Rattle.std.proofs.Common.{◌≡◌, ◌++◌}
use Rattle.module_entries.proofs.entries.append.Given as goal

abbrev pub invariant-loop-entry : goal.invariant-loop-entry
invariant-loop-entry l = l.made.items ++ l.entry-iterator.rest.items ≡ l.initial.made.items ++ l.initial.entry-iterator.rest.items
