-- The table of neighbors (own).
use Rattle.std.specs.Prelude.{Contains, IsSomeAnd}
use Rattle.std.specs.BTreeMap.{BTreeMap, get}
use Rattle.std.specs.Global.{Vec}
use Rattle.rotor_base.specs.Place.{place_cmp}
use Rattle.rotor_base.specs.declared.place.Place.{Place}

-- the table has b among the neighbors of a
abbrev pub HasNeighbor : BTreeMap Place (Vec Place) → Place → Place → Type 0
HasNeighbor neighbors a b = IsSomeAnd (get place_cmp neighbors a) (λ list. Contains list.items b)
