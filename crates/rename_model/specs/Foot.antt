-- The footprint of a binder, and the places that take the new word (own).
use Rattle.std.specs.Prelude.{List, ◌++◌, Bool, false, Contains, map, filter}
use Rattle.std.specs.List.{list_any}
use Rattle.rotor_base.specs.declared.place.Place.{Place}
use Rattle.rotor_base.specs.declared.place.Goal.{Goal}
use Rattle.rotor_base.specs.declared.place.Goal.TheVariants.{Decl}
use Rattle.rotor_base.specs.declared.place.Ref.{Ref}
use Rattle.rotor_base.specs.declared.place.Foot.{Foot}
use Rattle.rotor_base.specs.Place.{same_place}
use Rattle.dependency_kernel.specs.Foot.{IsFoot}
use Rattle.ml_trees.specs.Tree.{UnitTree}
use Rattle.binding_model.specs.Facts.{facts}

-- the footprint of a binder
abbrev pub IsTheFoot : List UnitTree → Place → Foot → Type 0
IsTheFoot us d foot = IsFoot (facts us).links d foot

-- a place is a member of a footprint
abbrev pub IsIn : Foot → Place → Type 0
IsIn foot p = Contains foot.decls p

-- the same, as a test; and a goal is the declaration of a member
abbrev pub is_in : Foot → Place → Bool
is_in foot p = list_any (same_place p) foot.decls

abbrev pub leads_in : Foot → Goal → Bool
leads_in foot (Decl d) = is_in foot d
leads_in foot _ = false

-- the references to members
abbrev pub refs_to : Foot → List Ref → List Ref
refs_to foot refs = filter (λ r. leads_in foot r.goal) refs

-- the places that take the new word: the members, and the references to them
abbrev pub hits : List Ref → Foot → List Place
hits refs foot = foot.decls ++ map (λ r. r.at) (refs_to foot refs)

abbrev pub IsHit : List UnitTree → Foot → Place → Type 0
IsHit us foot p = Contains (hits (facts us).refs foot) p
