use Rattle.std.proofs.Common.{◌≡◌, take}
use Rattle.rename_parts.proofs.References.{places_to}
use Rattle.rename_parts.proofs.members.hit_places.Given as goal

-- the members, and the references to them so far
abbrev pub invariant-loop-reference : goal.invariant-loop-reference
invariant-loop-reference l = l.list.items ≡ places_to l.foot (take l.reference-index l.refs)
