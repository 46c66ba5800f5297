-- The members of a footprint among the entries of a list (own).
use Rattle.std.specs.Prelude.{◌≡◌, ◌≤◌, ℕ, suc, List, [], ◌∷◌, Option, Some, None, cond, length, map, take}
use Rattle.rotor_base.specs.declared.place.Place.{Place}
use Rattle.rotor_base.specs.declared.looks.Watch.{Watch}
use Rattle.shape_core.specs.declared.shared.SharedEntry.{SharedEntry}
use Rattle.shape_core.specs.declared.shared.SharedEntry.TheVariants as e
use Rattle.shape_core.specs.declared.index.Spot.{Spot}
use Rattle.shape_core.specs.declared.members.Members.{Members}
use Rattle.shape_core.specs.Node.{entries_of}
use Rattle.shape_core.specs.Shape.{darks, or_else}
use Rattle.shape_core.specs.Places.{is_among}
use Rattle.shape_core.specs.Looks as looks

-- one entry more in front, and one Dark entry more
abbrev pub behind : Spot → Spot
behind s = record { goal = s.goal; position = suc s.position; darks = s.darks }

abbrev pub behind_dark : Spot → Spot
behind_dark s = record { goal = s.goal; position = suc s.position; darks = suc s.darks }

-- the values of a list whose goals are among some declarations, in order
abbrev pub spots_of : List Place → List SharedEntry → List Spot
spots_of ds [] = []
spots_of ds (e.Val x g ∷ es) =
    cond (is_among ds g) (record { goal = g; position = 0; darks = 0 } ∷ map behind (spots_of ds es)) (map behind (spots_of ds es))
spots_of ds (e.Mod x s ∷ es) = map behind (spots_of ds es)
spots_of ds (e.Mty x s ∷ es) = map behind (spots_of ds es)
spots_of ds (e.Dark at ∷ es) = map behind_dark (spots_of ds es)

-- the spot of an entry behind so many entries, so many of them Dark
abbrev pub spot_at : List Place → ℕ → ℕ → SharedEntry → List Spot
spot_at ds n k (e.Val x g) = cond (is_among ds g) (record { goal = g; position = n; darks = k } ∷ []) []
spot_at ds n k (e.Mod x s) = []
spot_at ds n k (e.Mty x s) = []
spot_at ds n k (e.Dark at) = []

-- so many Dark entries
abbrev pub dark_of : SharedEntry → ℕ
dark_of (e.Val x g) = 0
dark_of (e.Mod x s) = 0
dark_of (e.Mty x s) = 0
dark_of (e.Dark at) = 1

-- the last of some
abbrev pub final : List Spot → Option Spot
final [] = None
final (s ∷ ss) = or_else (final ss) (Some s)

-- the members among the first entries of a list, as many as were noted
pub record HasMembers (m : Members) (list : List SharedEntry) : Type 0 where
  pub few : m.noted ≤ length list
  pub spots : m.spots.items ≡ spots_of m.decls.items (take m.noted list)
  pub darks : m.darks ≡ length (darks (entries_of (take m.noted list)))

-- the last member of each list that was noted whole and has so many Dark entries
abbrev pub IsLastMember : Members → ℕ → Option looks.Spot → Type 0
IsLastMember m n spot =
    (list : List SharedEntry) (w : Watch) → w.foot.decls ≡ m.decls.items → HasMembers m list → m.noted ≡ length list
    → n ≡ length (darks (entries_of list)) → spot ≡ looks.last_where (looks.in_foot w) (entries_of list)
