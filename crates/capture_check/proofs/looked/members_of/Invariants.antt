use Rattle.std.proofs.Common.{◌≡◌, ◌||◌, drop}
use Rattle.std.specs.List.{list_any}
use Rattle.std.specs.BTreeSet.{contains}
use Rattle.rotor_base.specs.declared.place.Place.{Place}
use Rattle.rotor_base.specs.Place.{same_place, place_cmp}
use Rattle.capture_check.proofs.looked.members_of.Given as goal

-- with the declarations that are left, the set has all of them
abbrev pub invariant-loop-place : goal.invariant-loop-place
invariant-loop-place l = (d : Place) → (contains place_cmp l.members d || list_any (same_place d) (drop l.place-index l.decls)) ≡ list_any
    (same_place d) l.decls
