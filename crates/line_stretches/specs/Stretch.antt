-- Where a line begins and ends (own).
use Rattle.std.specs.Prelude.{◌≡◌, ℕ, suc, ◌+◌, List, ◌∷◌, ◌++◌, length, sum_by}

-- the bytes of some lines, each with its LF
abbrev pub bytes_in : List (List ℕ) → ℕ
bytes_in lines = sum_by (λ line. suc (length line)) lines

-- the line of this number, from 1, begins behind the lines before it, and ends behind its last byte
pub record IsStretch (lines : List (List ℕ)) (number start end : ℕ) : Type 0 where
  pub before : List (List ℕ)
  pub line : List ℕ
  pub after : List (List ℕ)
  pub split : lines ≡ before ++ line ∷ after
  pub counted : number ≡ suc (length before)
  pub begins : start ≡ bytes_in before
  pub ends : end ≡ start + length line
