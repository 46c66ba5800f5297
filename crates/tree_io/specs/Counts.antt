-- Counts of calls and of faults, and the calls that are to fail (own).
use Rattle.std.specs.Prelude.{◌≡◌, ℕ, ◌+◌, ◌-◌, ◌^◌, ◌<◌, min, Bool, false, List, ◌==◌}
use Rattle.std.specs.List.{list_any}

-- one more; a count at the greatest u64 stays there
abbrev pub next_count : ℕ → ℕ
next_count count = min (count + 1) (2 ^ 64 - 1)

-- the number is among those listed
abbrev pub is_listed : List ℕ → ℕ → Bool
is_listed failing number = list_any (λ n. n == number) failing

-- no number above this one is listed
abbrev pub IsPast : List ℕ → ℕ → Type 0
IsPast failing number = (later : ℕ) → number < later → is_listed failing later ≡ false
