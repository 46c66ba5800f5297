-- A word cut at its first byte of a kind.
use Rattle.std.proofs.Common.{◌≡◌, ℕ, ◌+◌, ◌-◌, ◌<◌, ◌≤◌, ◌==◌, Bool, true, false, List, [], ◌∷◌, length, take, drop, Option, Some, None, nat_lt}
use Rattle.std.proofs.Common.{refl, sym, ap, arith, length-drop, append_assoc, ◌++◌}
use Rattle.std.proofs.lemmas.List.{take_all, drop-drop}
use Rattle.std.specs.List.{slice_split, position_or_len, position}
use Rattle.std.proofs.lemmas.Bool.Decides.{nat_tests}
use Rattle.std.proofs.lemmas.List.Splits.{slice_split_first, slice_split_none}
use Rattle.std.proofs.lemmas.List.Sums.{fails_before_first}
use Rattle.cli_words.specs.Target.{cut_at}

below : (n m : ℕ) → nat_lt n m ≡ true → n < m
below n m h = grind (arith, nat_tests)

above : (n m : ℕ) → nat_lt n m ≡ false → m ≤ n
above n m h = grind (arith, nat_tests)

-- the first part, and what the rest is cut into
pub split_some : (c : ℕ) (word part behind : List ℕ) → ◌≡◌ {A = Option (List ℕ × List ℕ)} (Some (part, behind)) (cut_at c word)
    → (slice_split (λ b. b == c) word ≡ part ∷ slice_split (λ b. b == c) behind) × (length behind < length word)
split_some c word part behind e = by_test (nat_lt i (length word)) refl where
  i : ℕ
  i = position_or_len (λ b. b == c) word

  by_test : (t : Bool) → nat_lt i (length word) ≡ t → (slice_split (λ b. b == c) word ≡ part ∷ slice_split (λ b. b == c) behind)
      × (length behind < length word)
  by_test true g =
      let whole : ◌≡◌ {A = Option (List ℕ × List ℕ)} (Some (part, behind)) (Some (take i word, drop (i + 1) word)) = rw g at e in
      let pair : ◌≡◌ {A = List ℕ × List ℕ} (part, behind) (take i word, drop (i + 1) word) = cc in
      let front : part ≡ take i word = ap (λ (p : List ℕ × List ℕ). p.0) pair in
      let rest : behind ≡ drop (i + 1) word = ap (λ (p : List ℕ × List ℕ). p.1) pair in
      let small : i < length word = below i (length word) g in
      (rw (front, rest) (slice_split_first (λ b. b == c) word 0 small), rw rest (omega (arith, length-drop (i + 1) word)))
  by_test false g = let bad : ◌≡◌ {A = Option (List ℕ × List ℕ)} (Some (part, behind)) None = rw g at e in cc

-- a word without the byte is one part
pub split_none : (c : ℕ) (word : List ℕ) → ◌≡◌ {A = Option (List ℕ × List ℕ)} None (cut_at c word) → slice_split (λ b. b == c) word ≡ word ∷ []
split_none c word e = by_test (nat_lt i (length word)) refl where
  i : ℕ
  i = position_or_len (λ b. b == c) word

  by_test : (t : Bool) → nat_lt i (length word) ≡ t → slice_split (λ b. b == c) word ≡ word ∷ []
  by_test true g = let bad : ◌≡◌ {A = Option (List ℕ × List ℕ)} None (Some (take i word, drop (i + 1) word)) = rw g at e in cc
  by_test false g = slice_split_none (λ b. b == c) word (λ k d lt. fails_before_first (λ b. b == c) word k d (omega (arith, above i (length word) g)))

-- the bytes before and behind a place
pub cut_is : (c : ℕ) (word front rest : List ℕ) (i : ℕ) → Some i ≡ position (λ b. b == c) word → front ≡ take i word → rest ≡ drop i word
    → Some (front, take (length rest - 1) (drop 1 rest)) ≡ cut_at c word
cut_is c word front rest i at f r =
    let tail : take (length rest - 1) (drop 1 rest) ≡ drop 1 rest = take_all (length rest - 1) (drop 1 rest) (omega (arith, length-drop 1 rest)) in
    let later : drop 1 rest ≡ drop (i + 1) word = rw r (drop-drop 1 i word) in
    rw (tail, f, later, sym at) refl

-- one more part is named
pub parts_more : (names now all rest : List (List ℕ)) (name part : List ℕ) (behind : List (List ℕ)) → now ≡ names ++ name ∷ [] → name ≡ part
    → names ++ rest ≡ all → rest ≡ part ∷ behind
    → now ++ behind ≡ all
parts_more names now all rest name part behind n same whole split =
    rw (n, append_assoc names (name ∷ []) behind, same, ← split) whole
