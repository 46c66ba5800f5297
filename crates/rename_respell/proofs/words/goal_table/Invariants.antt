use Rattle.std.proofs.Common.{◌≡◌, drop}
use Rattle.std.specs.BTreeMap.{get}
use Rattle.rotor_base.specs.declared.place.Place.{Place}
use Rattle.rotor_base.specs.Place.{place_cmp}
use Rattle.shape_core.specs.Shape.{or_else}
use Rattle.binding_model.specs.Renaming.{goal_at}
use Rattle.rename_respell.proofs.words.goal_table.Given as goal

-- with the references that are left, the table is that of all of them
abbrev pub invariant-loop-reference : goal.invariant-loop-reference
invariant-loop-reference l = (p : Place) → or_else (get place_cmp l.goals p) (goal_at (drop l.reference-index l.refs) p) ≡ goal_at l.refs p
