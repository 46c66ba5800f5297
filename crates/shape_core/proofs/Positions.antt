-- What is left of a list behind a position.
use Rattle.std.proofs.Common.{◌≡◌, ◌≤◌, ◌<◌, ◌+◌, ◌⊎◌, inl, inr, ℕ, List, [], ◌∷◌, length, drop, sym, ap, ◌∙◌, Some, None, slice_get, get_or}
use Rattle.std.proofs.lemmas.List.{drop_all, drop_more}
use Rattle.std.proofs.lemmas.Option.{slice_get_within, slice_get_cases, get_or_from_slice_get}

pub drop_at : {A : Type 0} (xs : List A) (n : ℕ) (x : A) → slice_get xs n ≡ Some x → drop n xs ≡ x ∷ drop (n + 1) xs
drop_at xs n x h = drop_more xs n x (slice_get_within xs n x h) ∙ ap (λ y. y ∷ drop (n + 1) xs) (get_or_from_slice_get xs n x x h)

pub drop_end : {A : Type 0} (xs : List A) (n : ℕ) → slice_get xs n ≡ None → drop n xs ≡ []
drop_end {A = A} xs n h = by (slice_get_cases xs n).1 where
  by : ((x : A) × (n < length xs) × (slice_get xs n ≡ Some x) × (get_or xs n x ≡ x)) ⊎ ((length xs ≤ n) × (slice_get xs n ≡ None)) → drop n xs ≡ []
  by (inl found) = let wrong : None ≡ Some found.0 = sym h ∙ found.2 in absurd cc
  by (inr past) = drop_all n xs past.0

pub drop_past : {A : Type 0} (xs : List A) (n : ℕ) → length xs ≤ n → drop n xs ≡ []
drop_past xs n h = drop_all n xs h
