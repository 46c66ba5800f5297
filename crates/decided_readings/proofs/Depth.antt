-- The nesting is over the limit after a first token, or after none.
use Rattle.std.proofs.Common.{◌≡◌, ◌⊎◌, inl, inr, ℕ, zero, suc, ◌+◌, ◌<◌, ◌≤◌, List, Option, Some, None, length, subst, arith}
use Rattle.std.proofs.lemmas.Bool.{cases_order}
use Rattle.rotor_base.specs.Limits.{max_nesting}
use Rattle.rotor_base.specs.declared.token.Token.{Token}
use Rattle.parse_base.specs.Nesting.{DeepIs, nesting}

-- the nesting is not over the limit after fewer tokens than these
abbrev IsShallow : List Token → ℕ → Type 0
IsShallow ts n = (k : ℕ) → k < n → nesting ts k ≤ max_nesting

within_or_over : (m n : ℕ) → (m ≤ n) ⊎ (n < m)
within_or_over m n =
    elim (cases_order m n) [
      | inl e ↦ inl (omega (arith, e))
      | inr (inl less) ↦ inl (omega (arith, less))
      | inr (inr more) ↦ inr more
    ]

module _ (ts : List Token) where
  one_more : (n : ℕ) → IsShallow ts n → nesting ts n ≤ max_nesting → IsShallow ts (suc n)
  one_more n before here k less =
      elim (cases_order k n) [
        | inl e ↦ subst (λ m. nesting ts m ≤ max_nesting) (same e) here
        | inr (inl below) ↦ before k below
        | inr (inr above) ↦ absurd (omega (arith, less, above))
      ]
    where
      same : k ≡ n → n ≡ k
      same e = omega (arith, e)

  scan : (left n : ℕ) → n + left ≡ length ts + 1 → IsShallow ts n → (deep : Option ℕ) × DeepIs ts deep
  scan zero n size before = (None, λ k le. before k (omega (arith, size, le)))
  scan (suc left) n size before = by (within_or_over (nesting ts n) max_nesting) (scan left (suc n)) where
    by : ((nesting ts n ≤ max_nesting) ⊎ (max_nesting < nesting ts n))
        → (suc n + left ≡ length ts + 1 → IsShallow ts (suc n) → (deep : Option ℕ) × DeepIs ts deep) → (deep : Option ℕ) × DeepIs ts deep
    by (inl here) more = more (omega (arith, size)) (one_more n before here)
    by (inr over) more = (Some n, record { there = omega (arith, size); over = over; first = before })

  pub depth_decided : (deep : Option ℕ) × DeepIs ts deep
  depth_decided = scan (length ts + 1) 0 (omega arith) (λ k less. absurd (omega (arith, less)))
