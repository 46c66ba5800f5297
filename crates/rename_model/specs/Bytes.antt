-- The first position of a list at which the items so far meet a test (own).
use Rattle.std.specs.Prelude.{ℕ, suc, List, [], ◌∷◌, Bool, Option, Some, None, option_map, if◌then◌else◌}

-- the position of the first item with which the items up to it meet a test
abbrev pub position_with : {X : Type 0} → (List X → Bool) → List X → Option ℕ
position_with test [] = None
position_with test (x ∷ xs) = if test (x ∷ []) then Some 0 else option_map suc (position_with (λ front. test (x ∷ front)) xs)
