use Rattle.std.proofs.Common.{◌≡◌, take}
use Rattle.rotor_base.specs.declared.looks.Watch.{Watch}
use Rattle.shape_core.specs.Node.{entries_of}
use Rattle.shape_core.specs.Looks.{last_where, in_foot}
use Rattle.shape_core.specs.Places.{HasPlaces}
use Rattle.shape_core.proofs.listed.last_member_among.Given as goal

abbrev pub invariant-loop-at : goal.invariant-loop-at
invariant-loop-at l = (w : Watch) → HasPlaces w.foot.decls l.set → l.last ≡ last_where (in_foot w) (entries_of (take l.at l.list))
