-- The first item of a list that passes a test, item by item.
use Rattle.std.proofs.Common.{◌≡◌, ℕ, suc, ◌+◌, List, [], ◌∷◌, Bool, true, false, cond, Option, Some, None, option_map, drop, map, refl, ap, sym, ◌∙◌}
use Rattle.std.proofs.Common.{arith}
use Rattle.rename_model.specs.Target.{first_at}

abbrev pub counted : ℕ → Option ℕ → Option ℕ
counted n found = option_map (λ k. n + k) found

pub counted_none : (o : Option ℕ) → counted 0 o ≡ o
counted_none None = refl
counted_none (Some k) = ap Some (omega arith)

pub counted_on : (n : ℕ) (found : Option ℕ) → counted n (option_map suc found) ≡ counted (n + 1) found
counted_on n None = refl
counted_on n (Some k) = ap Some (omega arith)

module _ {X : Type 0} (test : X → Bool) where
  miss_at : (x : X) (xs : List X) (n : ℕ) → test x ≡ false → counted n (first_at test (x ∷ xs)) ≡ counted (n + 1) (first_at test xs)
  miss_at x xs n e = ap (λ b. counted n (cond b (Some 0) (option_map suc (first_at test xs)))) e ∙ counted_on n (first_at test xs)

  hit_at : (x : X) (xs : List X) (n : ℕ) → test x ≡ true → counted n (first_at test (x ∷ xs)) ≡ Some n
  hit_at x xs n e = ap (λ b. counted n (cond b (Some 0) (option_map suc (first_at test xs)))) e ∙ ap Some (omega arith)

  pub search_begin : (xs : List X) → counted 0 (first_at test xs) ≡ first_at test xs
  search_begin xs = counted_none (first_at test xs)

  pub search_miss : (xs : List X) (i n : ℕ) (x : X) (o : Option ℕ) → drop i xs ≡ x ∷ drop (i + 1) xs → test x ≡ false
      → counted n (first_at test (drop i xs)) ≡ o → counted (n + 1) (first_at test (drop (i + 1) xs)) ≡ o
  search_miss xs i n x o d e h = sym (miss_at x (drop (i + 1) xs) n e) ∙ (sym (ap (λ ys. counted n (first_at test ys)) d) ∙ h)

  pub search_hit : (xs : List X) (i n : ℕ) (x : X) (o : Option ℕ) → drop i xs ≡ x ∷ drop (i + 1) xs → test x ≡ true
      → counted n (first_at test (drop i xs)) ≡ o → Some n ≡ o
  search_hit xs i n x o d e h = sym (hit_at x (drop (i + 1) xs) n e) ∙ (sym (ap (λ ys. counted n (first_at test ys)) d) ∙ h)

  pub search_end : (xs : List X) (i n : ℕ) (o : Option ℕ) → drop i xs ≡ [] → counted n (first_at test (drop i xs)) ≡ o → None ≡ o
  search_end xs i n o d h = sym (ap (λ ys. counted n (first_at test ys)) d) ∙ h

-- a search through what a map gives
pub first_mapped : {X Y : Type 0} (f : X → Y) (test : Y → Bool) (xs : List X) → first_at test (map f xs) ≡ first_at (λ x. test (f x)) xs
first_mapped f test [] = refl
first_mapped f test (x ∷ xs) = ap (λ o. cond (test (f x)) (Some 0) (option_map suc o)) (first_mapped f test xs)
