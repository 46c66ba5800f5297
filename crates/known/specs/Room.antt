-- The room of two folders that are written together (own).
use Rattle.std.specs.Prelude.{ℕ, List, min}

-- the lesser room of two
abbrev pub lesser : (List ℕ → ℕ) → (List ℕ → ℕ) → List ℕ → ℕ
lesser a b name = min (a name) (b name)
