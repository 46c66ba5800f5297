use Rattle.std.proofs.Common.{◌≡◌, ◌≤◌, ◌+◌, ◌++◌, length, take, vec_len}
use Rattle.shape_core.specs.Parts.{parts_list, IsCounted}
use Rattle.shape_core.proofs.scope.Scope.cut.Given as goal

abbrev pub invariant-loop-self : goal.invariant-loop-self
invariant-loop-self l = record {
  counted : IsCounted l.self-inside.number l.self-inside.parts.items l.self-inside.last;
  kept : take l.len (parts_list l.self-inside.parts.items ++ l.self-inside.last) ≡ take l.len l.fn.self;
  long : l.len ≤ length (parts_list l.self-inside.parts.items ++ l.self-inside.last);
}

abbrev pub decreases-loop-self : goal.decreases-loop-self
decreases-loop-self l = vec_len l.self-inside.parts + l.self-inside.number
