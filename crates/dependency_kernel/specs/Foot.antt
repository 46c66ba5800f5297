-- The footprint of a declaration (own, after Rowe, Férée, Thompson and Owens, 'Characterising
-- Renaming within OCaml's Module System').
use Rattle.std.specs.Prelude.{◌≡◌, ◌⊎◌, List, Contains, AllPairs, Option, IfSome, IfNone}
use Rattle.rotor_base.specs.Place.{IsBefore}
use Rattle.rotor_base.specs.declared.place.Place.{Place}
use Rattle.rotor_base.specs.declared.place.Link.{Link}
use Rattle.rotor_base.specs.declared.place.Foot.{Foot}
use Rattle.rotor_base.specs.declared.place.Goal.TheVariants.{Decl, Outside}

-- the link of two declarations: a is the item, and b the source
abbrev pub link_of : Place → Place → Link
link_of a b = record { item = Decl a; source = Decl b }

-- a link joins the two declarations, in either direction
abbrev pub Joined : List Link → Place → Place → Type 0
Joined links a b = Contains links (link_of a b) ⊎ Contains links (link_of b a)

-- a path along links in either direction, both of whose ends are declarations
pub data Path (links : List Link) (d : Place) : Place → Type 0 where
  here : Path links d d
  along : (a b : Place) → Path links d a → Joined links a b → Path links d b

-- the link has the declaration at one end and the outside at the other
abbrev pub IsFixedBy : Link → Place → Type 0
IsFixedBy link p = (link ≡ record { item = Decl p; source = Outside }) ⊎ (link ≡ record { item = Outside; source = Decl p })

-- the declaration is in a link whose other end is the outside
abbrev pub IsFixed : List Link → Place → Type 0
IsFixed links p = (link : Link) × Contains links link × IsFixedBy link p

-- something that is reached from the declaration d is in a link whose other end is the outside
abbrev pub IsPinned : List Link → Place → Type 0
IsPinned links d = (p : Place) × Path links d p × IsFixed links p

-- the least of some declarations that is in a link with the outside, or none if there is none
pub record IsLeastFixed (links : List Link) (decls : List Place) (answer : Option Place) : Type 0 where
  pub member : IfSome answer (Contains decls)
  pub fixed : IfSome answer (IsFixed links)
  pub least : IfSome answer (λ p. (q : Place) → Contains decls q → IsFixed links q → (p ≡ q) ⊎ IsBefore p q)
  pub none : IfNone answer ((q : Place) → Contains decls q → IsFixed links q → ⊥)

-- the footprint of the declaration d: all that is reached from it, in order, and the least of it that is fixed
pub record IsFoot (links : List Link) (d : Place) (foot : Foot) : Type 0 where
  pub ordered : AllPairs IsBefore foot.decls
  pub reached : (p : Place) → Contains foot.decls p → Path links d p
  pub all : (p : Place) → Path links d p → Contains foot.decls p
  pub outside : IsLeastFixed links foot.decls foot.outside
