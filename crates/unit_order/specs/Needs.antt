-- The needs of the units of a list, as a table and as lists of positions (own).
use Rattle.std.specs.Prelude.{◌≡◌, ◌&&◌, ◌||◌, ℕ, ◌+◌, ◌<◌, List, [], ◌∷◌, Bool, false, All, Some, cond, count_by, get_or, length, map, nat_eq, not}
use Rattle.std.specs.List.{list_any}
use Rattle.std.specs.Str.{bytes_eq}
use Rattle.name_tables.specs.declared.names.Names.{Names}
use Rattle.name_tables.specs.Names.{at}
use Rattle.ml_trees.specs.Tree.{UnitTree}
use Rattle.unit_order.specs.Order.{needs_unit}
use Rattle.unit_order.specs.Positions.{unit_at}

-- for each unit a row, which says of each whether it is needed
abbrev pub need_table : List UnitTree → List (List Bool)
need_table units = map (λ u. map (λ v. needs_unit u v.name) units) units

-- a table has the position of each of these names, and no other name
pub record ArePositions (positions : Names ℕ) (names : List (List ℕ)) : Type 0 where
  pub found : (p : ℕ) → p < length names → at positions (get_or names p []) ≡ Some p
  pub named : (x : List ℕ) (p : ℕ) → at positions x ≡ Some p → (p < length names) × (get_or names p [] ≡ x)

-- a head is the name of a unit, and not that of the unit that has the head
abbrev pub is_other_head : List ℕ → List ℕ → List ℕ → Bool
is_other_head own name head = bytes_eq head name && not (bytes_eq head own)

-- a row of the units of these names is marked at the unit that a head names, if that is not the one that has the head
abbrev pub MarksHead : Names ℕ → List ℕ → List ℕ → List Bool → List Bool → Type 0
MarksHead positions own head old new =
    (names : List (List ℕ)) → ArePositions positions names → length old ≡ length names → (p : ℕ) → p < length names
    → get_or new p false ≡ (get_or old p false || is_other_head own (get_or names p []) head)

-- the positions at which a row says so, counted from one on
abbrev pub positions_from : ℕ → List Bool → List ℕ
positions_from at [] = []
positions_from at (needed ∷ row) = cond needed (at ∷ positions_from (at + 1) row) (positions_from (at + 1) row)

-- each of these lists has the positions of the units that one unit needs
pub record AreNeeds (units : List UnitTree) (lists : List (List ℕ)) : Type 0 where
  pub size : length lists ≡ length units
  pub inside : All (All (λ at. at < length units)) lists
  pub exact : (i j : ℕ) → i < length units → j < length units → list_any (nat_eq j) (get_or lists i []) ≡ needs_unit (unit_at units i)
      (unit_at units j).name

-- how often a position is in one of these lists
abbrev pub times : List (List ℕ) → ℕ → ℕ → ℕ
times lists list at = count_by (nat_eq at) (get_or lists list [])
