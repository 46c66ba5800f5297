-- Marks of sources (own).
use Rattle.std.specs.Prelude.{ℕ, List, [], ◌∷◌, Bool, ◌&&◌, Option}
use Rattle.need_chains.specs.Distances.{is_number}

-- the sources that are marked and have this number
abbrev pub marked_at : ℕ → List Bool → List (Option ℕ) → List Bool
marked_at n [] numbers = []
marked_at n (mark ∷ marks) [] = []
marked_at n (mark ∷ marks) (number ∷ numbers) = (mark && is_number n number) ∷ marked_at n marks numbers
