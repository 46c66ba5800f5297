use Rattle.std.proofs.Common.{◌≡◌, drop}
use Rattle.std.specs.BTreeMap.{get}
use Rattle.rotor_base.specs.declared.place.Place.{Place}
use Rattle.rotor_base.specs.Place.{place_cmp}
use Rattle.shape_core.specs.Shape.{or_else}
use Rattle.binding_model.specs.Local.{ref_look_at}
use Rattle.capture_check.proofs.looked.ref_table.Given as goal

-- with the looks that are left, the table is that of all of them
abbrev pub invariant-loop-look : goal.invariant-loop-look
invariant-loop-look l = (p : Place) → or_else (get place_cmp l.table p) (ref_look_at (drop l.look-index l.looks) p) ≡ ref_look_at l.looks p
