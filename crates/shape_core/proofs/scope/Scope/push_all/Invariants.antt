use Rattle.std.proofs.Common.{◌≡◌, ◌++◌, take}
use Rattle.shape_core.proofs.scope.Scope.push_all.Given as goal

abbrev pub invariant-loop-entry : goal.invariant-loop-entry
invariant-loop-entry l = l.self ≡ l.fn.self ++ take l.entry-index l.list
