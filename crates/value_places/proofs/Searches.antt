-- What a search among rising tokens finds.
use Rattle.std.proofs.Common.{◌≡◌, ◌⊎◌, inl, inr, ◌==◌, ◌<◌, ◌≤◌, ℕ, zero, suc, List, [], ◌∷◌, Bool, true, false, Some, None, Ok, Err}
use Rattle.std.proofs.Common.{refl, ap, sym, ◌∙◌, get_or, length, arith}
use Rattle.std.specs.List.Sorted.{IsBinarySearchResult, IsNonDecreasingBy}
use Rattle.std.specs.Ordering.{nat_cmp, ordering_index}
use Rattle.std.proofs.lemmas.Bool.Decides.{nat_tests}
use Rattle.std.proofs.lemmas.Cmp.{ranked}
use Rattle.std.proofs.lemmas.List.Sorted.{IsNonDecreasingBy-from_default}
use Rattle.ml_syntax.specs.declared.sites.Site.{Site}
use Rattle.ml_syntax.specs.Sites.{view_site}
use Rattle.shape_core.specs.Shape.{or_else, some_if}
use Rattle.value_places.specs.Placed.{Rises, at_token}

pub no_site : Site
no_site = record { token = 0; binds = false; pun = false; operator = false; name = [] }

-- the first site of a token is the one at a position, if those before it have other tokens
at_position : (xs : List Site) (at : ℕ) (token : ℕ) → at < length xs → (get_or xs at no_site).token ≡ token
    → ((j : ℕ) → j < at → (get_or xs j no_site).token ≡ token → ⊥) → at_token xs token ≡ Some (view_site (get_or xs at no_site))
at_position [] at token w e none = absurd (omega (arith, w))
at_position (x ∷ xs) zero token w e none =
    ap (λ b. or_else (some_if b (view_site x)) (at_token xs token)) (same x.token token e) where
      same : (a b : ℕ) → a ≡ b → (a == b) ≡ true
      same a b e = grind arith
at_position (x ∷ xs) (suc at) token w e none =
    ap (λ b. or_else (some_if b (view_site x)) (at_token xs token)) (other x.token token (none zero (omega arith)))
    ∙ at_position xs at token (omega (arith, w)) e (λ j l. none (suc j) (omega (arith, l))) where
      other : (a b : ℕ) → (a ≡ b → ⊥) → (a == b) ≡ false
      other a b n = by (a == b) refl where
        by : (c : Bool) → (a == b) ≡ c → c ≡ false
        by true f = absurd (n (grind arith))
        by false f = refl

nowhere : (xs : List Site) (token : ℕ) → ((j : ℕ) → j < length xs → (get_or xs j no_site).token ≡ token → ⊥) → at_token xs token ≡ None
nowhere [] token none = refl
nowhere (x ∷ xs) token none =
    ap (λ b. or_else (some_if b (view_site x)) (at_token xs token)) (other x.token token (none zero (omega arith)))
    ∙ nowhere xs token (λ j l. none (suc j) (omega (arith, l))) where
      other : (a b : ℕ) → (a ≡ b → ⊥) → (a == b) ≡ false
      other a b n = by (a == b) refl where
        by : (c : Bool) → (a == b) ≡ c → c ≡ false
        by true f = absurd (n (grind arith))
        by false f = refl

module _ (xs : List Site) (up : Rises xs) (token : ℕ) where
  comparisons_rise : IsNonDecreasingBy (λ (x : Site). ordering_index (nat_cmp x.token token)) xs
  comparisons_rise = IsNonDecreasingBy-from_default (λ (x : Site). ordering_index (nat_cmp x.token token)) xs no_site (λ i j le w.
      let more : (i < j → (get_or xs i no_site).token < (get_or xs j no_site).token) = λ l. up i j no_site l w in
      grind (arith, nat_tests, more, λ (same : i ≡ j). ap (λ k. (get_or xs k no_site).token) same))

  pub found : (at : ℕ) → at < length xs → IsBinarySearchResult (λ (x : Site). nat_cmp x.token token) xs (Ok at)
      → at_token xs token ≡ Some (view_site (get_or xs at no_site))
  found at w equal =
      let is : (get_or xs at no_site).token ≡ token = ranked _ token _ (sym (equal no_site)) in
      at_position xs at token w is (λ j l e. let less = up j at no_site l w in omega (arith, less, is, e))

  pub missing : (at : ℕ) → at ≤ length xs → IsBinarySearchResult (λ (x : Site). nat_cmp x.token token) xs (Err at) → at_token xs token ≡ None
  missing at w parted =
      nowhere xs token (λ j l e. by j l e (split j at)) where
        split : (a b : ℕ) → (a < b) ⊎ (b ≤ a)
        split a b = grind arith

        by : (j : ℕ) → j < length xs → (get_or xs j no_site).token ≡ token → (j < at) ⊎ (at ≤ j) → ⊥
        by j l e (inl k) = let less : (get_or xs j no_site).token < token =
            ranked _ token _ (sym ((parted comparisons_rise).0 j no_site (omega arith) k)) in
            omega (arith, less, e)
        by j l e (inr k) = let more : token < (get_or xs j no_site).token = ranked _ token _ (sym ((parted comparisons_rise).1 j no_site k l)) in
            omega (arith, more, e)
