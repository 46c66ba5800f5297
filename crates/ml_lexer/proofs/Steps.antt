-- The steps of the definitions by recursion, as the loops take them.
use Rattle.std.proofs.Common.{◌≡◌, ◌≢◌, ℕ, zero, suc, ◌+◌, ◌-◌, ◌<◌, ◌≤◌, List, [], ◌∷◌, Bool, true, false, length, drop, length-drop, Some, None}
use Rattle.std.proofs.Common.{◌==◌, refl, ◌∙◌, arith, get_or}
use Rattle.std.proofs.Math.Seq.{drop-cons}
use Rattle.std.proofs.lemmas.Bool.Decides.{nat_tests}
use Rattle.ml_lexer.specs.declared.trivia.Part.{Part}
use Rattle.ml_lexer.specs.declared.trivia.Part.TheVariants.{Opens, Closes, Whole, Unended}
use Rattle.ml_lexer.specs.Quotes.{text_end, quoted_end, closes_quoted}
use Rattle.ml_lexer.specs.Trivia.{level_end}

eqb-false_of : {m n : ℕ} → m ≢ n → (m == n) ≡ false
eqb-false_of h = grind (arith, nat_tests)

pub text_taken : (n i : ℕ) (b : List ℕ) → i < length b → text_end n true (drop i b) ≡ text_end (n + 1) false (drop (i + 1) b)
unfolding text_end
text_taken n i b h = let e : i + 1 ≡ suc i = omega arith in rw (drop-cons b i 0, e) refl

pub text_closed : (n i : ℕ) (b : List ℕ) → i < length b → (get_or b i 0 == 34) ≡ true → text_end n false (drop i b) ≡ Some (n + 1)
unfolding text_end
text_closed n i b h e = rw (drop-cons b i 0, e) refl

pub text_more : (n i : ℕ) (b : List ℕ) → i < length b → (get_or b i 0 == 34) ≡ false
    → text_end n false (drop i b) ≡ text_end (n + 1) (get_or b i 0 == 92) (drop (i + 1) b)
unfolding text_end
text_more n i b h e = let next : i + 1 ≡ suc i = omega arith in rw (drop-cons b i 0, next, e) refl

pub text_none : (n : ℕ) (taken : Bool) (b : List ℕ) → length b ≡ 0 → text_end n taken b ≡ None
unfolding text_end
text_none n true [] h = refl
text_none n false [] h = refl
text_none n taken (c ∷ b) h = absurd (omega arith)

pub text_none_at : (n i : ℕ) (taken : Bool) (b : List ℕ) → length b ≤ i → text_end n taken (drop i b) ≡ None
text_none_at n i taken b h = text_none n taken (drop i b) (omega (arith, length-drop i b))

pub quoted_none : (word : List ℕ) (n : ℕ) (b : List ℕ) → length b ≡ 0 → quoted_end word n b ≡ None
unfolding quoted_end
quoted_none word n [] h = refl
quoted_none word n (c ∷ b) h = absurd (omega arith)

pub quoted_closed : (word : List ℕ) (n : ℕ) (b : List ℕ) → 0 < length b → closes_quoted word b ≡ true
    → quoted_end word n b ≡ Some (n + length word + 2)
unfolding quoted_end
quoted_closed word n [] h e = absurd (omega arith)
quoted_closed word n (c ∷ b) h e = rw e refl

pub quoted_more : (word : List ℕ) (n : ℕ) (b : List ℕ) → 0 < length b → closes_quoted word b ≡ false
    → quoted_end word n b ≡ quoted_end word (n + 1) (drop 1 b)
unfolding quoted_end
quoted_more word n [] h e = absurd (omega arith)
quoted_more word n (c ∷ b) h e = rw e refl

module _ (p : List ℕ → Part) where
  -- the bytes of a part that has begun are passed over
  pub level_skip : (d k n : ℕ) (b : List ℕ) → level_end p d k n b ≡ level_end p d 0 (n + k) (drop k b)
  unfolding level_end
  level_skip d zero n b = let e : n + 0 ≡ n = omega arith in rw e refl
  level_skip d (suc k) n [] = refl
  level_skip d (suc k) n (c ∷ b) = level_skip d k (n + 1) b ∙ (let e : (n + 1) + k ≡ n + suc k = omega arith in rw e refl)

  pub level_opens : (d n k : ℕ) (b : List ℕ) → 0 < length b → p b ≡ Opens k → 0 < k → level_end p d 0 n b ≡ level_end p (d + 1) 0 (n + k) (drop k b)
  unfolding level_end
  level_opens d n k [] h e l = absurd (omega arith)
  level_opens d n zero (c ∷ b) h e l = absurd (omega arith)
  level_opens d n (suc k) (c ∷ b) h e l =
      let up : (d + 1 == 0) ≡ false = eqb-false_of (omega arith) in
      let less : suc k - 1 ≡ k = omega arith in
      let one : (n + 1) + k ≡ n + suc k = omega arith in
      rw (e, up, less, level_skip (d + 1) k (n + 1) b, one) refl

  pub level_closes : (d n k : ℕ) (b : List ℕ) → 0 < length b → p b ≡ Closes k → 0 < k → 1 < d
      → level_end p d 0 n b ≡ level_end p (d - 1) 0 (n + k) (drop k b)
  unfolding level_end
  level_closes d n k [] h e l m = absurd (omega arith)
  level_closes d n zero (c ∷ b) h e l m = absurd (omega arith)
  level_closes d n (suc k) (c ∷ b) h e l m =
      let up : (d - 1 == 0) ≡ false = eqb-false_of (omega arith) in
      let less : suc k - 1 ≡ k = omega arith in
      let one : (n + 1) + k ≡ n + suc k = omega arith in
      rw (e, up, less, level_skip (d - 1) k (n + 1) b, one) refl

  pub level_closed : (d n k : ℕ) (b : List ℕ) → 0 < length b → p b ≡ Closes k → d ≡ 1 → level_end p d 0 n b ≡ Some (n + k)
  unfolding level_end
  level_closed d n k [] h e l = absurd (omega arith)
  level_closed d n k (c ∷ b) h e l = rw (e, l) refl

  pub level_whole : (d n k : ℕ) (b : List ℕ) → 0 < length b → p b ≡ Whole k → 0 < k → 0 < d → level_end p d 0 n b ≡ level_end p d 0 (n + k) (drop k b)
  unfolding level_end
  level_whole d n k [] h e l m = absurd (omega arith)
  level_whole d n zero (c ∷ b) h e l m = absurd (omega arith)
  level_whole d n (suc k) (c ∷ b) h e l m =
      let up : (d == 0) ≡ false = eqb-false_of (omega arith) in
      let less : suc k - 1 ≡ k = omega arith in
      let one : (n + 1) + k ≡ n + suc k = omega arith in
      rw (e, up, less, level_skip d k (n + 1) b, one) refl

  pub level_unended : (d n : ℕ) (b : List ℕ) → 0 < length b → p b ≡ Unended → level_end p d 0 n b ≡ None
  unfolding level_end
  level_unended d n [] h e = absurd (omega arith)
  level_unended d n (c ∷ b) h e = rw e refl

  pub level_none : (d n : ℕ) (b : List ℕ) → length b ≡ 0 → level_end p d 0 n b ≡ None
  unfolding level_end
  level_none d n [] h = refl
  level_none d n (c ∷ b) h = absurd (omega arith)

pub ruleset texts = (text_taken, text_closed, text_more, text_none_at)

pub ruleset quoteds = (quoted_none, quoted_closed, quoted_more)

pub ruleset levels = (level_none, level_opens, level_closes, level_closed, level_whole, level_unended)
