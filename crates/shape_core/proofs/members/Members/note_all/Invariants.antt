use Rattle.std.proofs.Common.{◌≡◌, ◌-◌, length}
use Rattle.shape_core.specs.Members.{HasMembers}
use Rattle.shape_core.proofs.members.Members.note_all.Given as goal

abbrev pub invariant-loop-self : goal.invariant-loop-self
invariant-loop-self l = record {
  has : HasMembers l.self l.entries;
  same : l.self.decls ≡ l.fn.self.decls;
}

abbrev pub decreases-loop-self : goal.decreases-loop-self
decreases-loop-self l = length l.entries - l.self.noted
