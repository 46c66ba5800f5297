-- What holds or does not.
use Rattle.std.proofs.Common.{◌≡◌, ◌⊎◌, inl, inr, ℕ, ◌<◌, ◌≤◌, List, [], ◌∷◌, Bool, true, false, Option, Some, None, refl, sym, arith}
use Rattle.std.proofs.lemmas.Bool.{cases_order, true≢false}
use Rattle.std.proofs.lemmas.Slice.Eq.{bytes_eq-Decides}
use Rattle.std.proofs.lemmas.Str.{IsUtf8-from_is_utf8, is_utf8-from_IsUtf8}
use Rattle.std.specs.Str.{IsUtf8, bytes_eq, is_utf8}

-- it holds, or it does not
abbrev pub Known : Type 0 → Type 0
Known A = A ⊎ (A → ⊥)

pub both_known : {A B : Type 0} → Known A → Known B → Known (A × B)
both_known (inl a) (inl b) = inl (a, b)
both_known (inr n) b = inr (λ k. n k.0)
both_known (inl a) (inr n) = inr (λ k. n k.1)

-- the same of what is equivalent
pub known_as : {A B : Type 0} → (A → B) → (B → A) → Known A → Known B
known_as f g (inl a) = inl (f a)
known_as f g (inr n) = inr (λ b. n (g b))

pub test_known : (b : Bool) → Known (b ≡ true)
test_known true = inl refl
test_known false = inr (λ e. true≢false (sym e))

pub fails_known : (b : Bool) → Known (b ≡ false)
fails_known true = inr (λ e. true≢false e)
fails_known false = inl refl

pub bytes_known : (one other : List ℕ) → Known (one ≡ other)
bytes_known one other = known_as (bytes_eq-Decides one other).0 (bytes_eq-Decides one other).1 (test_known (bytes_eq one other))

pub text_known : (bytes : List ℕ) → Known (IsUtf8 bytes)
text_known bytes = known_as (IsUtf8-from_is_utf8 bytes) (is_utf8-from_IsUtf8 bytes) (test_known (is_utf8 bytes))

pub some_known : (bytes : List ℕ) → Known (bytes ≡ [] → ⊥)
some_known [] = inr (λ n. n refl)
some_known (b ∷ bs) = inl (λ e. cc)

-- a number is not over another, or it is
pub within_or_over : (m n : ℕ) → (m ≤ n) ⊎ (n < m)
within_or_over m n =
    elim (cases_order m n) [
      | inl e ↦ inl (omega (arith, e))
      | inr (inl less) ↦ inl (omega (arith, less))
      | inr (inr more) ↦ inr more
    ]

pub within_known : (m n : ℕ) → Known (m ≤ n)
within_known m n = elim (within_or_over m n) [ inl le ↦ inl le | inr less ↦ inr (λ le. omega (arith, le, less)) ]

-- there is none
pub none_known : {A : Type 0} (o : Option A) → Known (o ≡ None)
none_known None = inl refl
none_known (Some a) = inr (λ e. cc)
