-- Lists that end together.
use Rattle.std.proofs.Common.{◌≡◌, ◌<◌, ℕ, List, [], ◌∷◌, Bool, Option, length, refl, arith}
use Rattle.need_chains.specs.Distances.{farther}
use Rattle.need_chains.specs.Marks.{marked_at}

pub marked_none : (n : ℕ) (marks : List Bool) (numbers : List (Option ℕ)) → length numbers < 1 → marked_at n marks numbers ≡ []
marked_none n [] numbers h = refl
marked_none n (m ∷ marks) [] h = refl
marked_none n (m ∷ marks) (o ∷ numbers) h = absurd (omega arith)

pub farther_none : (n : ℕ) (numbers : List (Option ℕ)) (rows : List (List ℕ)) (left : List (Option ℕ)) → length left < 1
    → farther n numbers rows left ≡ []
farther_none n numbers [] left h = refl
farther_none n numbers (row ∷ rows) [] h = refl
farther_none n numbers (row ∷ rows) (number ∷ left) h = absurd (omega arith)
