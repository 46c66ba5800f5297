-- A file of a folder, by its path (own).
use Rattle.std.specs.Prelude.{◌≡◌, ◌⊎◌, ◌<◌, ℕ, ◌==◌, List, [], ◌∷◌, ◌++◌, Bool, false, length}
use Rattle.std.specs.List.{list_any}

abbrev pub is_slash : ℕ → Bool
is_slash b = b == 47

-- What is before the last slash of a path, and what is behind it. Without a slash nothing is before it, and the whole path
-- is behind it.
pub record Splits (path parent name : List ℕ) : Type 0 where
  pub last : list_any is_slash name ≡ false
  pub parts : ((path ≡ name) × (parent ≡ [])) ⊎ (path ≡ parent ++ 47 ∷ name)

-- a path, whose first slash is left out, is that of the file with this name in this folder
pub record IsPlace (path folder name : List ℕ) : Type 0 where
  pub parent : List ℕ
  pub split : Splits path parent name
  pub rooted : folder ≡ 47 ∷ parent
  pub named : 0 < length name
  pub no_nul : list_any (λ b. b == 0) path ≡ false
