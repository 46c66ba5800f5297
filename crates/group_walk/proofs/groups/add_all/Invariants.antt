use Rattle.std.proofs.Common.{◌≡◌, ◌++◌}
use Rattle.group_walk.proofs.groups.add_all.Given as goal

abbrev pub invariant-loop-group : goal.invariant-loop-group
invariant-loop-group l = l.list.items ++ l.group-iterator.rest.items ≡ l.fn.list.items ++ l.initial.group-iterator.rest.items
