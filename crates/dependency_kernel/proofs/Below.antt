-- What the first part of a list contains.
use Rattle.std.proofs.Common.{◌≡◌, ℕ, ◌+◌, ◌<◌, ◌≤◌, ◌⊎◌, ap, sym, ◌∙◌, inl, inr, arith, List, length, get_or, Contains}
use Rattle.std.proofs.lemmas.List.{get_or_default}
use Rattle.std.proofs.lemmas.Bool.{cases_eq}

-- the list has x at an index below n
abbrev pub FoundBelow : {X : Type 0} → ℕ → List X → X → Type 0
FoundBelow n xs x = (k : ℕ) × (k < n) × (get_or xs k x ≡ x)

pub found_none : {X : Type 0} (xs : List X) (x : X) → FoundBelow 0 xs x → ⊥
found_none xs x f = let below : f.0 < 0 = f.1 in omega arith

pub found_more : {X : Type 0} (n : ℕ) (xs : List X) (x : X) → FoundBelow n xs x → FoundBelow (n + 1) xs x
found_more n xs x f = let below : f.0 < n = f.1 in (f.0, omega arith, f.2)

pub found_last : {X : Type 0} (n : ℕ) (xs : List X) (x : X) → x ≡ get_or xs n x → FoundBelow (n + 1) xs x
found_last n xs x is = (n, omega arith, sym is)

pub found_split : {X : Type 0} (n : ℕ) (xs : List X) (x y : X) → n < length xs → y ≡ get_or xs n y → FoundBelow (n + 1) xs x
    → FoundBelow n xs x ⊎ (x ≡ y)
found_split n xs x y within is f =
    let below : f.0 < n + 1 = f.1 in
    elim (cases_eq f.0 n) [
      | inl e ↦ inr (sym f.2 ∙ (ap (λ k. get_or xs k x) e ∙ (get_or_default xs n x y within ∙ sym is)))
      | inr ne ↦ inl (f.0, omega arith, f.2)
    ]

pub found_all : {X : Type 0} (n : ℕ) (xs : List X) (x : X) → length xs ≤ n → Contains xs x → FoundBelow n xs x
found_all n xs x le f = let below : f.0 < length xs = f.1 in (f.0, omega arith, f.2)

pub found_within : {X : Type 0} (n : ℕ) (xs : List X) (x : X) → n ≤ length xs → FoundBelow n xs x → Contains xs x
found_within n xs x le f = let below : f.0 < n = f.1 in (f.0, omega arith, f.2)
