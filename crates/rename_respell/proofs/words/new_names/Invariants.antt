use Rattle.std.proofs.Common.{◌≡◌, drop, option_copied}
use Rattle.std.specs.BTreeMap.{get}
use Rattle.rotor_base.specs.declared.place.Place.{Place}
use Rattle.rotor_base.specs.Place.{place_cmp}
use Rattle.shape_core.specs.Shape.{or_else}
use Rattle.binding_model.specs.Renaming.{at_place}
use Rattle.value_places.specs.Placed.{name_in}
use Rattle.rename_respell.specs.Respelled.{changed_from}
use Rattle.rename_respell.proofs.words.new_names.Given as goal

-- with the entries that are left, the table is that of all of them
abbrev pub invariant-loop-entry : goal.invariant-loop-entry
invariant-loop-entry l =
    (p : Place)
    → or_else (option_copied (get place_cmp l.names p)) (at_place (changed_from (name_in l.placed) (drop l.entry-index l.map)) p) ≡ at_place
    (changed_from (name_in l.placed) l.map) p
