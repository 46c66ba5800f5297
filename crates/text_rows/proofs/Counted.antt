-- The numbers from 0 on.
use Rattle.std.proofs.Common.{◌≡◌, ◌⊎◌, inl, inr, ℕ, ◌+◌, ◌<◌, ◌≤◌, List, [], ◌∷◌, ◌++◌, length, get_or, sym, ap, ◌∙◌, subst, arith}
use Rattle.std.specs.List.Sorted.{IsNonDecreasing}
use Rattle.std.proofs.lemmas.List.{length_push, get_or_append_left, get_or_push}
use Rattle.std.proofs.Math.Nat.{eq-or-lt_of_le}

-- the items are so many numbers from 0 on
pub record Counts (items : List ℕ) (n : ℕ) : Type 0 where
  pub many : length items ≡ n
  pub each : (k d : ℕ) → k < length items → get_or items k d ≡ k

pushed : (items : List ℕ) (n k d : ℕ) → Counts items n → (k ≡ length items) ⊎ (k < length items) → get_or (items ++ n ∷ []) k d ≡ k
pushed items n k d c (inl is) = get_or_push items n d k (sym is) ∙ sym c.many ∙ sym is
pushed items n k d c (inr lt) = get_or_append_left items (n ∷ []) d k lt ∙ c.each k d lt

pub counts_on : (items new : List ℕ) (n : ℕ) → Counts items n → new ≡ items ++ n ∷ [] → Counts new (n + 1)
counts_on items new n c is =
    let P : List ℕ → Type 0 = λ xs. Counts xs (n + 1) in
    subst P (sym is)
    (record {
      many = omega (arith, length_push items n, c.many);
      each = λ k d lt. pushed items n k d c (eq-or-lt_of_le (omega (arith, length_push items n)));
    })

pub counts_rise : (items : List ℕ) (n : ℕ) → Counts items n → IsNonDecreasing items
counts_rise items n c i j d le lt = omega (arith, c.each i d (omega arith), c.each j d lt)
