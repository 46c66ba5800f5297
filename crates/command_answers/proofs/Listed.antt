-- Each of a list is free of a condition, or one of it meets it.
use Rattle.std.proofs.Common.{◌⊎◌, inl, inr, List, [], ◌∷◌, Contains, sym, subst}
use Rattle.rename_verify.proofs.Alone.{first_in, more_in, none_in, split_in}

pub one_or_none : {A : Type 0} (P : A → Type 0) → ((x : A) → P x ⊎ (P x → ⊥)) → (xs : List A)
    → ((x : A) × Contains xs x × P x) ⊎ ((x : A) → Contains xs x → P x → ⊥)
one_or_none P decide [] = inr (λ x c. absurd (none_in x c))
one_or_none {A} P decide (x ∷ xs) = by (decide x) (one_or_none P decide xs) where
  by : P x ⊎ (P x → ⊥) → ((y : A) × Contains xs y × P y) ⊎ ((y : A) → Contains xs y → P y → ⊥)
      → ((y : A) × Contains (x ∷ xs) y × P y) ⊎ ((y : A) → Contains (x ∷ xs) y → P y → ⊥)
  by (inl p) rest = inl (x, first_in x xs, p)
  by (inr n) (inl one) = inl (one.0, more_in x xs one.0 one.1, one.2)
  by (inr n) (inr none) = inr (λ y c p. elim (split_in x xs y c) [ inl e ↦ n (subst P (sym e) p) | inr k ↦ none y k p ])

-- decisions of what is composed
pub both_known : {A B : Type 0} → A ⊎ (A → ⊥) → B ⊎ (B → ⊥) → (A × B) ⊎ ((A × B) → ⊥)
both_known (inl a) (inl b) = inl (a, b)
both_known (inr n) b = inr (λ k. n k.0)
both_known (inl a) (inr n) = inr (λ k. n k.1)

pub either_known : {A B : Type 0} → A ⊎ (A → ⊥) → B ⊎ (B → ⊥) → (A ⊎ B) ⊎ ((A ⊎ B) → ⊥)
either_known (inl a) b = inl (inl a)
either_known (inr n) (inl b) = inl (inr b)
either_known (inr n) (inr m) = inr (λ k. elim k [ inl a ↦ n a | inr b ↦ m b ])

pub not_known : {A : Type 0} → A ⊎ (A → ⊥) → (A → ⊥) ⊎ ((A → ⊥) → ⊥)
not_known (inl a) = inr (λ n. n a)
not_known (inr n) = inl n
