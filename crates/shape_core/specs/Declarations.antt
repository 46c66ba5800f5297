-- Where a list of entries has each declaration last (own).
use Rattle.std.specs.Prelude.{◌≡◌, ◌-◌, ℕ, List, [], ◌∷◌, Option, Some, None, cond, nat_lt}
use Rattle.std.specs.BTreeMap.{get}
use Rattle.rotor_base.specs.Place.{place_cmp}
use Rattle.rotor_base.specs.declared.place.Place.{Place}
use Rattle.shape_core.specs.declared.shared.SharedEntry.{SharedEntry}
use Rattle.shape_core.specs.declared.shared.SharedEntry.TheVariants as e
use Rattle.shape_core.specs.declared.index.Spot.{Spot}
use Rattle.shape_core.specs.declared.declarations.LastValue.{LastValue}
use Rattle.shape_core.specs.declared.declarations.Declarations.{Declarations}
use Rattle.shape_core.specs.Looks as looks
use Rattle.shape_core.specs.Members.{final, spots_of}
use Rattle.shape_core.specs.Shape.{decl_of}

-- the declaration that an entry is
abbrev pub declared_in : SharedEntry → Option Place
declared_in (e.Val x g) = decl_of g
declared_in (e.Mod x s) = None
declared_in (e.Mty x s) = None
declared_in (e.Dark at) = None

-- the last value that a spot is of, without its goal
abbrev pub last_value_of : Option Spot → Option LastValue
last_value_of None = None
last_value_of (Some s) = Some (record { position = s.position; darks = s.darks })

-- what a look says of a declaration, in a list with so many Dark entries
abbrev pub spot_of : Place → ℕ → Option LastValue → Option looks.Spot
spot_of p n None = None
spot_of p n (Some s) = Some (s.position, p, n - s.darks)

-- the one of two spots that is later in the list
abbrev pub later : Option looks.Spot → Option looks.Spot → Option looks.Spot
later None o = o
later (Some s) None = Some s
later (Some s) (Some t) = cond (nat_lt s.0 t.0) (Some t) (Some s)

-- the declarations of a list are known, each by the last value whose goal it is
abbrev pub HasDeclarations : Declarations → List SharedEntry → Type 0
HasDeclarations d list = (p : Place) → get place_cmp d.last_values p ≡ last_value_of (final (spots_of (p ∷ []) list))
