-- What is left of a listing after it is filtered, sorted, and freed of names that repeat.
use Rattle.std.proofs.Common.{◌≡◌, ℕ, List, [], ◌∷◌, Bool, true, false, not, ◌&&◌, ◌||◌, cond, map, filter, IsPermutation, refl, sym, ap, ◌∙◌}
use Rattle.std.specs.List.{list_all, list_any, dedup, dedup_from, AllByRecursion}
use Rattle.std.specs.List.Sorted.{IsStrictlySortedBy}
use Rattle.std.specs.declared.cmp.Ordering.{Ordering}
use Rattle.std.specs.declared.cmp.Ordering.TheVariants.{Less}
use Rattle.std.proofs.lemmas.List.Sorted.{list_any-IsPermutation}

module _ {X : Type 0} (f : X → List ℕ) where
  pub any_map : (test : List ℕ → Bool) (xs : List X) → list_any test (map f xs) ≡ list_any (λ x. test (f x)) xs
  any_map test [] = refl
  any_map test (x ∷ xs) = ap (λ b. test (f x) || b) (any_map test xs)

  any_filter : (p test : List ℕ → Bool) (xs : List X) → list_any (λ x. test (f x)) (filter (λ x. p (f x)) xs) ≡ list_any
      (λ x. p (f x) && test (f x)) xs
  any_filter p test [] = refl
  any_filter p test (x ∷ xs) = by (p (f x)) (any_filter p test xs) where
    by : (b : Bool) → list_any (λ x. test (f x)) (filter (λ x. p (f x)) xs) ≡ list_any (λ x. p (f x) && test (f x)) xs
        → list_any (λ x. test (f x)) (cond b (x ∷ filter (λ x. p (f x)) xs) (filter (λ x. p (f x)) xs))
        ≡ ((b && test (f x)) || list_any (λ x. p (f x) && test (f x)) xs)
    by true rest = ap (λ b. test (f x) || b) rest
    by false rest = rest

  twice : (a b c : Bool) → b ≡ a → (a || c) ≡ (a || (b || c))
  twice true b c e = refl
  twice false b c e = ap (λ t. t || c) (sym e)

  any_dedup_from : (E : X → X → Bool) → ((x y : X) → E x y ≡ true → f x ≡ f y) → (test : List ℕ → Bool) (k : X) (xs : List X)
      → list_any (λ x. test (f x)) (dedup_from E k xs) ≡ list_any (λ x. test (f x)) (k ∷ xs)
  any_dedup_from E same test k [] = refl
  any_dedup_from E same test k (x ∷ xs) = by (E x k) refl (any_dedup_from E same test k xs) (any_dedup_from E same test x xs) where
    by : (b : Bool) → E x k ≡ b → list_any (λ x. test (f x)) (dedup_from E k xs) ≡ (test (f k) || list_any (λ x. test (f x)) xs)
        → list_any (λ x. test (f x)) (dedup_from E x xs) ≡ (test (f x) || list_any (λ x. test (f x)) xs)
        → list_any (λ x. test (f x)) (cond b (dedup_from E k xs) (k ∷ dedup_from E x xs))
        ≡ (test (f k) || (test (f x) || list_any (λ x. test (f x)) xs))
    by true e one two = one ∙ twice (test (f k)) (test (f x)) (list_any (λ x. test (f x)) xs) (ap test (same x k e))
    by false e one two = ap (λ b. test (f k) || b) two

  any_dedup : (E : X → X → Bool) → ((x y : X) → E x y ≡ true → f x ≡ f y) → (test : List ℕ → Bool) (xs : List X)
      → list_any (λ x. test (f x)) (dedup E xs) ≡ list_any (λ x. test (f x)) xs
  any_dedup E same test [] = refl
  any_dedup E same test (x ∷ xs) = any_dedup_from E same test x xs

  -- a test finds in what is left what it finds among the names that were kept
  pub any_kept : (E : X → X → Bool) → ((x y : X) → E x y ≡ true → f x ≡ f y) → (p test : List ℕ → Bool) (xs ys : List X)
      → IsPermutation (filter (λ x. p (f x)) xs) ys
      → list_any test (map f (dedup E ys)) ≡ list_any (λ name. p name && test name) (map f xs)
  any_kept E same p test xs ys h =
      any_map test (dedup E ys) ∙ any_dedup E same test ys ∙ sym (list_any-IsPermutation (λ x. test (f x)) (filter (λ x. p (f x)) xs) ys h)
      ∙ any_filter p test xs ∙ sym (any_map (λ name. p name && test name) xs)

  below_map : (R : List ℕ → List ℕ → Ordering) (x : X) (xs : List X) → AllByRecursion (λ y. R (f x) (f y) ≡ Less) xs
      → AllByRecursion (λ y. R (f x) y ≡ Less) (map f xs)
  below_map R x [] h = tt
  below_map R x (y ∷ xs) h = (h.0, below_map R x xs h.1)

  pub ordered_map : (R : List ℕ → List ℕ → Ordering) (xs : List X) → IsStrictlySortedBy (λ x y. R (f x) (f y)) xs → IsStrictlySortedBy R (map f xs)
  unfolding IsStrictlySortedBy
  ordered_map R [] h = tt
  ordered_map R (x ∷ xs) h = (below_map R x xs h.0, ordered_map R xs h.1)

all_by : (p : List ℕ → Bool) (xs : List (List ℕ)) → list_any (λ x. not (p x)) xs ≡ false → list_all p xs ≡ true
all_by p [] e = refl
all_by p (x ∷ xs) e = by (p x) e (all_by p xs) where
  by : (b : Bool) → (not b || list_any (λ x. not (p x)) xs) ≡ false → (list_any (λ x. not (p x)) xs ≡ false → list_all p xs ≡ true)
      → (b && list_all p xs) ≡ true
  by true e rest = rest e
  by false e rest = cc

none_both : (p : List ℕ → Bool) (xs : List (List ℕ)) → list_any (λ x. p x && not (p x)) xs ≡ false
none_both p [] = refl
none_both p (x ∷ xs) = by (p x) (none_both p xs) where
  by : (b : Bool) → list_any (λ x. p x && not (p x)) xs ≡ false → ((b && not b) || list_any (λ x. p x && not (p x)) xs) ≡ false
  by true rest = rest
  by false rest = rest

-- all that is left passes the test
pub all_kept : (p : List ℕ → Bool) (xs ys : List (List ℕ)) → ((test : List ℕ → Bool) → list_any test ys ≡ list_any (λ name. p name && test name) xs)
    → list_all p ys ≡ true
all_kept p xs ys h = all_by p ys (h (λ x. not (p x)) ∙ none_both p xs)
