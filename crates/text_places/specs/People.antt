-- Lines and columns as people count, by the LFs before a byte (own).
use Rattle.std.specs.Prelude.{ℕ, ◌+◌, ◌==◌, List, [], ◌∷◌, cond}

-- how many LFs there are
abbrev pub feeds_in : List ℕ → ℕ
feeds_in [] = 0
feeds_in (b ∷ bs) = cond (b == 10) (1 + feeds_in bs) (feeds_in bs)

-- the column behind some bytes, of which the first has this one
abbrev pub column_behind : ℕ → List ℕ → ℕ
column_behind column [] = column
column_behind column (b ∷ bs) = cond (b == 10) (column_behind 1 bs) (column_behind (column + 1) bs)
