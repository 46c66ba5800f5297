-- Bytes cut at their first space (own).
use Rattle.std.specs.Prelude.{◌≡◌, ℕ, ◌==◌, false, List, ◌∷◌, ◌++◌}
use Rattle.std.specs.List.{list_any}

-- no byte is a space
abbrev pub IsWhole : List ℕ → Type 0
IsWhole bytes = list_any (λ b. b == 32) bytes ≡ false

-- the bytes are those before the first space, the space, and those behind it
pub record IsCut (bytes front behind : List ℕ) : Type 0 where
  pub split : bytes ≡ front ++ 32 ∷ behind
  pub whole : IsWhole front
