use Rattle.std.proofs.Common.{◌≡◌, ◌≤◌, take, length}
use Rattle.rotor_base.specs.declared.place.Foot.{Foot}
use Rattle.shape_core.specs.Places.{HasPlaces}
use Rattle.rename_model.specs.Foot.{refs_to}
use Rattle.rename_parts.proofs.members.count_refs.Given as goal

-- the number among the references so far
abbrev pub invariant-loop-reference : goal.invariant-loop-reference
invariant-loop-reference l = record {
  count : (foot : Foot) → HasPlaces foot.decls l.members → l.count ≡ length (refs_to foot (take l.reference-index l.refs));
  few : l.count ≤ l.reference-index;
}
