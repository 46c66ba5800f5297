use Rattle.std.proofs.Common.{◌≡◌, ◌++◌, drop, map}
use Rattle.rotor_base.specs.declared.place.Place.{Place}
use Rattle.shape_core.specs.Shape.{Name}
use Rattle.rename_survey.specs.declared.answer.Binder.{Binder}
use Rattle.resolution_rows.proofs.respelled.one_name.Given as goal

-- with the binders that are left, the places are those of all binders
abbrev pub invariant-loop-binder : goal.invariant-loop-binder
invariant-loop-binder l = map (λ (e : Place × Name). e.0) l.map.items ++ map (λ (b : Binder). b.at) (drop l.binder-index l.binders) ≡ map
    (λ (b : Binder). b.at) l.binders
