-- Places in a list and in a set, and goals among the places of a list (own).
use Rattle.std.specs.Prelude.{◌≡◌, Bool, false, List}
use Rattle.std.specs.List.{list_any}
use Rattle.std.specs.BTreeSet.{BTreeSet, contains}
use Rattle.rotor_base.specs.Place.{place_cmp, same_place}
use Rattle.rotor_base.specs.declared.place.Place.{Place}
use Rattle.rotor_base.specs.declared.place.Goal.{Goal}
use Rattle.rotor_base.specs.declared.place.Goal.TheVariants.{Decl, Outside, Missing, Hidden, Blur}

-- the set has these places, and no more
abbrev pub HasPlaces : List Place → BTreeSet Place → Type 0
HasPlaces ps set = (p : Place) → contains place_cmp set p ≡ list_any (same_place p) ps

-- the goal is the declaration at one of the places
abbrev pub is_among : List Place → Goal → Bool
is_among ps (Decl d) = list_any (same_place d) ps
is_among ps Outside = false
is_among ps Missing = false
is_among ps Hidden = false
is_among ps (Blur by n behind) = false
