-- What an index of a list of entries holds (own).
use Rattle.std.specs.Prelude.{◌≡◌, ℕ, suc, Bool, false, List, [], ◌∷◌, ◌++◌, slice_get, Option, Some, None, bytes_eq, nat_eq}
use Rattle.shape_core.specs.declared.shared.SharedEntry.{SharedEntry}
use Rattle.shape_core.specs.declared.shared.SharedEntry.TheVariants as e
use Rattle.shape_core.specs.declared.index.Spot.{Spot}
use Rattle.shape_core.specs.declared.index.Tables.{Tables}
use Rattle.shape_core.specs.declared.index.Before.{Before}
use Rattle.shape_core.specs.declared.index.Index.{Index}
use Rattle.name_tables.specs.Names.{at}
use Rattle.shape_core.specs.Node.{entries_of}
use Rattle.shape_core.specs.Shape.{Name, Shape, Entries, none, a_val, a_mod, a_mty, a_dark, or_else, some_if, darks, values_from}

-- one entry more in front, and one Dark entry more
abbrev pub moved : Option Spot → Option Spot
moved None = None
moved (Some s) = Some (record { goal = s.goal; position = suc s.position; darks = s.darks })

abbrev pub one_more : Option Spot → Option Spot
one_more None = None
one_more (Some s) = Some (record { goal = s.goal; position = suc s.position; darks = suc s.darks })

-- the last value of a name: its goal, its position, and the number of Dark entries before it
abbrev pub last_spot : Entries → Name → Option Spot
last_spot none x = None
last_spot (a_val y g es) x = or_else (moved (last_spot es x)) (some_if (bytes_eq y x) (record { goal = g; position = 0; darks = 0 }))
last_spot (a_mod X s es) x = moved (last_spot es x)
last_spot (a_mty S s es) x = moved (last_spot es x)
last_spot (a_dark at es) x = one_more (last_spot es x)

-- the entry is a module, or a module type, of that name
abbrev pub is_mod : Name → SharedEntry → Bool
is_mod X (e.Val y g) = false
is_mod X (e.Mod Y s) = bytes_eq Y X
is_mod X (e.Mty Y s) = false
is_mod X (e.Dark at) = false

abbrev pub is_mty : Name → SharedEntry → Bool
is_mty S (e.Val y g) = false
is_mty S (e.Mod Y s) = false
is_mty S (e.Mty Y s) = bytes_eq Y S
is_mty S (e.Dark at) = false

abbrev pub up : Option ℕ → Option ℕ
up None = None
up (Some n) = Some (suc n)

-- the position of the last entry that a test accepts
abbrev pub last_at : (SharedEntry → Bool) → List SharedEntry → Option ℕ
last_at test [] = None
last_at test (e ∷ es) = or_else (up (last_at test es)) (some_if (test e) 0)

-- the position of a spot, and whether a position is this one
abbrev pub position_of : Option Spot → Option ℕ
position_of None = None
position_of (Some s) = Some s.position

abbrev pub position_is : ℕ → Option ℕ → Bool
position_is n None = false
position_is n (Some m) = nat_eq m n

-- the shape of a module, and of a module type
abbrev pub mod_at : Option SharedEntry → Option Shape
mod_at None = None
mod_at (Some (e.Val x g)) = None
mod_at (Some (e.Mod x s)) = Some s
mod_at (Some (e.Mty x s)) = None
mod_at (Some (e.Dark at)) = None

abbrev pub mty_at : Option SharedEntry → Option Shape
mty_at None = None
mty_at (Some (e.Val x g)) = None
mty_at (Some (e.Mod x s)) = None
mty_at (Some (e.Mty x s)) = Some s
mty_at (Some (e.Dark at)) = None

-- the shape of the entry at a position
abbrev pub there : (Option SharedEntry → Option Shape) → List SharedEntry → Option ℕ → Option Shape
there f list None = None
there f list (Some n) = f (slice_get list n)

-- the tables hold the last entries of each name of the list, and its Dark entries
pub record Tells (t : Tables) (list : List SharedEntry) : Type 0 where
  pub vals : (x : Name) → at t.vals x ≡ last_spot (entries_of list) x
  pub mods : (X : Name) → at t.mods X ≡ last_at (is_mod X) list
  pub mtys : (S : Name) → at t.mtys S ≡ last_at (is_mty S) list
  pub darks : t.darks.items ≡ darks (entries_of list)

-- what a list holds for the name of an entry that follows the list
abbrev pub before_of : List SharedEntry → SharedEntry → Before
before_of list (e.Val x g) = record { spot = last_spot (entries_of list) x; position = None }
before_of list (e.Mod x s) = record { spot = None; position = last_at (is_mod x) list }
before_of list (e.Mty x s) = record { spot = None; position = last_at (is_mty x) list }
before_of list (e.Dark at) = record { spot = None; position = None }

-- the spot that was held, if there is one
abbrev pub spot_in : Option Before → Option Spot
spot_in None = None
spot_in (Some b) = b.spot

-- the same for each entry of a list that follows other entries
abbrev pub befores_from : List SharedEntry → List SharedEntry → List Before
befores_from done [] = []
befores_from done (e ∷ es) = before_of done e ∷ befores_from (done ++ e ∷ []) es

pub record IsIndexOf (ix : Index) (list : List SharedEntry) : Type 0 where
  pub tables : Tells ix.tables list
  pub befores : ix.befores.items ≡ befores_from [] list
  pub values : ix.values.items ≡ values_from 0 (entries_of list)
