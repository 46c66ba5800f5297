-- The fewest needs that lead from units to another (own).
use Rattle.std.specs.Prelude.{◌≡◌, ◌≤◌, ◌<◌, ◌++◌, ◌+◌, ℕ, zero, suc, List, [], ◌∷◌, Bool, false, Option, Some, None, cond, get_or, map, nat_eq}
use Rattle.std.specs.List.{list_any}
use Rattle.need_chains.specs.Chains.{chain, first_marked, leads, next_marks}
use Rattle.need_chains.specs.declared.unit_heads.UnitHeads.{UnitHeads}

abbrev pub least_or : Option ℕ → Bool → ℕ → Option ℕ
least_or (Some d) holds n = Some d
least_or None holds n = cond holds (Some n) None

-- the least of the numbers below this one of which it holds
abbrev pub least : (ℕ → Bool) → ℕ → Option ℕ
least holds zero = None
least holds (suc n) = least_or (least holds n) (holds n) n

-- it is this number
abbrev pub is_number : ℕ → Option ℕ → Bool
is_number n None = false
is_number n (Some d) = nat_eq d n

-- the fewest needs that lead from a unit to another, if they are fewer than this number
abbrev pub distance : ℕ → List UnitHeads → List ℕ → List ℕ → Option ℕ
distance n sources to unit = least (λ d. leads d sources to unit) n

-- the same of the unit of each source
abbrev pub distances : ℕ → List UnitHeads → List ℕ → List (Option ℕ)
distances n sources to = map (λ s. distance n sources to s.unit) sources

-- one of these positions has this number
abbrev pub any_at : ℕ → List (Option ℕ) → List ℕ → Bool
any_at n numbers row = list_any (λ at. is_number n (get_or numbers at None)) row

-- the number of a source, or one more than that of a source that it needs
abbrev pub farther_one : ℕ → List (Option ℕ) → List ℕ → Option ℕ → Option ℕ
farther_one n numbers row (Some d) = Some d
farther_one n numbers row None = cond (any_at n numbers row) (Some (n + 1)) None

abbrev pub farther : ℕ → List (Option ℕ) → List (List ℕ) → List (Option ℕ) → List (Option ℕ)
farther n numbers [] left = []
farther n numbers (row ∷ rows) [] = []
farther n numbers (row ∷ rows) (number ∷ left) = farther_one n numbers row number ∷ farther n numbers rows left

-- These numbers are the distances to a unit, up to more needs than these; and no chain of fewer needs, but none, leads to
-- it from a unit. Then this is the next unit of the chain.
abbrev pub IsNextUnit : ℕ → List UnitHeads → List ℕ → List (Option ℕ) → Option (List ℕ) → Type 0
IsNextUnit needs sources unit numbers next = (to : List ℕ) (n : ℕ) → needs < n → numbers ≡ distances n sources to
    → ((d : ℕ) → d < needs → leads (suc d) sources to unit ≡ false)
    → next ≡ first_marked None sources (next_marks needs sources to unit)

-- in the same case the new names are the old ones, and those of the chain
abbrev pub AddsChain : ℕ → List UnitHeads → List ℕ → List (Option ℕ) → List (List ℕ) → List (List ℕ) → Type 0
AddsChain needs sources unit numbers old new = (to : List ℕ) (n : ℕ) → needs ≤ n → numbers ≡ distances n sources to
    → ((d : ℕ) → suc d < needs → leads (suc d) sources to unit ≡ false)
    → new ≡ old ++ chain needs sources to unit
