-- The laws of footprints: the graph half of 'least footprint' (own).
use Rattle.std.specs.Prelude.{◌≡◌, ◌≢◌, ◌↔◌, ℕ, List, Contains, IsSome}
use Rattle.rotor_base.specs.declared.place.Place.{Place}
use Rattle.rotor_base.specs.declared.place.Link.{Link}
use Rattle.rotor_base.specs.declared.place.Foot.{Foot}
use Rattle.dependency_kernel.specs.Foot.{link_of, IsFixed, IsPinned, IsFoot}

-- the names agree along links: both ends of a link of two declarations have one name
abbrev pub AgreesAlong : List Link → (Place → List ℕ) → Type 0
AgreesAlong links name = (a b : Place) → Contains links (link_of a b) → name a ≡ name b

-- names that agree along links give a footprint one name
abbrev pub HasOneName : Type 0
HasOneName =
    (links : List Link) (d : Place) (foot : Foot) (name : Place → List ℕ)
    → IsFoot links d foot → AgreesAlong links name
    → (a b : Place) → Contains foot.decls a → Contains foot.decls b → name a ≡ name b

-- if old and new names agree along links, new names that change a member change all of them, to one name
abbrev pub ChangesAll : Type 0
ChangesAll =
    (links : List Link) (d : Place) (foot : Foot) (old new : Place → List ℕ)
    → IsFoot links d foot → AgreesAlong links old → AgreesAlong links new
    → (a : Place) → Contains foot.decls a → new a ≢ old a
    → (b : Place) → Contains foot.decls b → (new b ≢ old b) × (new b ≡ new a)

-- if what is linked with the outside keeps its name too, and the footprint touches the outside, no member changes
abbrev pub FixedStays : Type 0
FixedStays =
    (links : List Link) (d : Place) (foot : Foot) (old new : Place → List ℕ)
    → IsFoot links d foot → AgreesAlong links old → AgreesAlong links new
    → ((p : Place) → IsFixed links p → new p ≡ old p) → IsSome foot.outside
    → (b : Place) → Contains foot.decls b → new b ≡ old b

-- a footprint touches the outside exactly if its declaration is pinned
abbrev pub TellsPinned : Type 0
TellsPinned = (links : List Link) (d : Place) (foot : Foot) → IsFoot links d foot → IsSome foot.outside ↔ IsPinned links d

-- a declaration has one footprint
abbrev pub IsTheOnly : Type 0
IsTheOnly = (links : List Link) (d : Place) (foot other : Foot) → IsFoot links d foot → IsFoot links d other → foot ≡ other
