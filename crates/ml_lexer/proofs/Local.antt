-- What begins at the front of some bytes depends on the front, and on the first byte behind it.
use Rattle.std.proofs.Common.{◌≡◌, ◌≢◌, ℕ, suc, ◌+◌, ◌-◌, ◌<◌, ◌≤◌, ◌⊎◌, inl, inr, List, [], ◌∷◌, ◌++◌, Bool, true, false, not, ◌==◌, ◌&&◌, length}
use Rattle.std.proofs.Common.{take, drop, get_or, nat_le, Some, refl, ap, sym, ◌∙◌, arith, length-drop}
use Rattle.std.specs.List.{prefix_len, list_all}
use Rattle.std.specs.Str.{byte}
use Rattle.std.proofs.lemmas.Grind.{common_steps}
use Rattle.std.proofs.lemmas.List.{drop-append-le, take-append-le}
use Rattle.std.proofs.lemmas.List.Folds.{prefix_len-append}
use Rattle.std.proofs.lemmas.List.Sums.{prefix_len_passes}
use Rattle.std.proofs.lemmas.Bool.Decides.{nat_tests}
use Rattle.ml_lexer.specs.Bytes.{is_at, is_quoted_word_byte}
use Rattle.ml_lexer.specs.Quotes.{fit, plain_char, short_escape, decimal_escape, hexadecimal_escape, octal_escape, char_length, text_end}
use Rattle.ml_lexer.specs.Quotes.{opens_quoted, closes_quoted, quoted_end, quoted_length, quoted_word_length}

-- the bytes behind a front, before and after: both end, begin with one byte, or begin words
pub data Alike : List ℕ → List ℕ → Type 0 where
  both_end : Alike [] []
  same_byte : {c : ℕ} {r r' : List ℕ} → Alike (c ∷ r) (c ∷ r')
  both_words : {c c' : ℕ} {r r' : List ℕ} → is_quoted_word_byte c ≡ true → is_quoted_word_byte c' ≡ true → Alike (c ∷ r) (c' ∷ r')

pub which : (b : Bool) → (b ≡ true) ⊎ (b ≡ false)
which true = inl refl
which false = inr refl

pub alike_test : (q : ℕ → Bool) (v : Bool) → ((c : ℕ) → is_quoted_word_byte c ≡ true → q c ≡ v) → {r r' : List ℕ} → Alike r r'
    → q (get_or r 0 0) ≡ q (get_or r' 0 0)
alike_test q v f both_end = refl
alike_test q v f same_byte = refl
alike_test q v f (both_words {c = c} {c' = c'} h h') = f c h ∙ sym (f c' h')

pub run_inside : (p : ℕ → Bool) (q r r' : List ℕ) → prefix_len p (q ++ r) < length q → prefix_len p (q ++ r') ≡ prefix_len p (q ++ r)
run_inside p q r r' h = grind (arith, nat_tests, prefix_len-append p q r, prefix_len-append p q r')

pub run_stops : (p : ℕ → Bool) (q r : List ℕ) → prefix_len p (q ++ r) ≡ length q → prefix_len p r ≡ 0
run_stops p q r h = grind (arith, nat_tests, prefix_len-append p q r)

pub run_exact : (p : ℕ → Bool) (q r r' : List ℕ) → prefix_len p (q ++ r) ≡ length q → prefix_len p r' ≡ 0 → prefix_len p (q ++ r') ≡ length q
run_exact p q r r' h e = grind (arith, nat_tests, prefix_len-append p q r, prefix_len-append p q r')

pub run_blocked : (p : ℕ → Bool) (b : List ℕ) (j : ℕ) → p (get_or b j 0) ≡ false → prefix_len p b ≤ j
run_blocked p b j e = grind (arith, prefix_len_passes p b j 0)

pub byte_inside : (q r r' : List ℕ) (i : ℕ) → i < length q → get_or (q ++ r) i 0 ≡ get_or (q ++ r') i 0
byte_inside q r r' i h = grind (arith, common_steps)

pub byte_of_front : (q r : List ℕ) (i : ℕ) → i < length q → get_or (q ++ r) i 0 ≡ get_or q i 0
byte_of_front q r i h = grind (arith, common_steps)

pub text_far : (n : ℕ) (taken : Bool) (b : List ℕ) (m : ℕ) → text_end n taken b ≡ Some m → n < m
unfolding text_end
text_far n true [] m e = cc
text_far n false [] m e = cc
text_far n true (c ∷ b) m e = let far = text_far (n + 1) false b m e in omega arith
text_far n false (c ∷ b) m e = elim (which (c == byte "\"")) [
  | inl y ↦ let at : n + 1 ≡ m = let got = rw y at e in cc in omega arith
  | inr y ↦ let far = text_far (n + 1) (c == byte "\\") b m (rw y at e) in omega arith
]

pub text_same : (n : ℕ) (taken : Bool) (q r r' : List ℕ) (m : ℕ) → text_end n taken (q ++ r) ≡ Some m → m ≤ n + length q
    → text_end n taken (q ++ r') ≡ Some m
unfolding text_end
text_same n taken [] r r' m e h = let far = text_far n taken r m e in absurd (omega arith)
text_same n true (c ∷ q) r r' m e h = text_same (n + 1) false q r r' m e (omega arith)
text_same n false (c ∷ q) r r' m e h = elim (which (c == byte "\"")) [
  | inl y ↦ let got = rw y at e in rw y got
  | inr y ↦ let more = rw y at e in rw y (text_same (n + 1) (c == byte "\\") q r r' m more (omega arith))
]

pub fit_same : (tests : List (ℕ → Bool)) (i : ℕ) (q r r' : List ℕ) → i + length tests ≤ length q → fit tests i (q ++ r) ≡ fit tests i (q ++ r')
fit_same [] i q r r' h = refl
fit_same (test ∷ tests) i q r r' h = rw (byte_inside q r r' i (omega arith), fit_same tests (i + 1) q r r' (omega arith)) refl

pub and_left : (a b : Bool) → (a && b) ≡ true → a ≡ true
and_left true b e = refl
and_left false b e = e

pub and_right : (a b : Bool) → (a && b) ≡ true → b ≡ true
and_right true b e = e
and_right false b e = cc

pub and_false : (a : Bool) → (a && false) ≡ false
and_false true = refl
and_false false = refl

not_true : (a : Bool) → not a ≡ true → a ≡ false
not_true true e = cc
not_true false e = refl

pub le_or_lt : (m n : ℕ) → (m ≤ n) ⊎ (n < m)
le_or_lt m n = elim (which (nat_le m n)) [
  | inl e ↦ inl (grind (arith, nat_tests, e))
  | inr e ↦ inr (grind (arith, nat_tests, e))
]

pub fit_blocked : (tests : List (ℕ → Bool)) (i j : ℕ) (b : List ℕ) → list_all (λ test. not (test (get_or b j 0))) tests ≡ true → i ≤ j
    → j < i + length tests → fit tests i b ≡ false
fit_blocked [] i j b f h l = absurd (omega arith)
fit_blocked (test ∷ tests) i j b f h l =
    let fails = not_true (test (get_or b j 0)) (and_left _ _ f) in
    elim (le_or_lt (i + 1) j) [
      | inl more ↦
          let tail : list_all (λ t. not (t (get_or b j 0))) tests ≡ true = and_right _ _ f in
          let here : j < (i + 1) + length tests = omega (arith, l) in
          ap (λ v. test (get_or b i 0) && v) (fit_blocked tests (i + 1) j b tail more here) ∙ and_false (test (get_or b i 0))
      | inr less ↦ let here : j ≡ i = omega arith in let fails_here : test (get_or b i 0) ≡ false = rw here at fails in rw fails_here refl
    ]

-- the front ends with this byte
pub record EndsWith (q : List ℕ) (c : ℕ) : Type 0 where
  pub some : 0 < length q
  pub last : get_or q (length q - 1) 0 ≡ c

-- no Char has this byte behind its second, and no word of a Quoted has it
pub record Closer (c : ℕ) : Type 0 where
  pub short : list_all (λ test. not (test c)) short_escape ≡ true
  pub decimal : list_all (λ test. not (test c)) decimal_escape ≡ true
  pub hexadecimal : list_all (λ test. not (test c)) hexadecimal_escape ≡ true
  pub octal : list_all (λ test. not (test c)) octal_escape ≡ true
  pub no_quote : (c == byte "'") ≡ false
  pub no_word : is_quoted_word_byte c ≡ false
  pub no_brace : (c == byte "{") ≡ false

pub closing_parenthesis : Closer 41
closing_parenthesis = record { short = refl; decimal = refl; hexadecimal = refl; octal = refl; no_quote = refl; no_word = refl; no_brace = refl }

pub closing_bracket : Closer 93
closing_bracket = record { short = refl; decimal = refl; hexadecimal = refl; octal = refl; no_quote = refl; no_word = refl; no_brace = refl }

last_of : (q r : List ℕ) (c : ℕ) → EndsWith q c → get_or (q ++ r) (length q - 1) 0 ≡ c
last_of q r c ends = let some : 0 < length q = ends.some in let last = ends.last in grind (arith, common_steps)

escape_same : (tests : List (ℕ → Bool)) (c : ℕ) (q r r' : List ℕ) → EndsWith q c → list_all (λ test. not (test c)) tests ≡ true
    → fit tests 0 (q ++ r) ≡ fit tests 0 (q ++ r')
escape_same tests c q r r' ends fails = elim (le_or_lt (length tests) (length q)) [
  | inl long ↦ fit_same tests 0 q r r' (omega arith)
  | inr short ↦
      let some : 0 < length q = ends.some in
      fit_blocked tests 0 (length q - 1) (q ++ r) (rw (last_of q r c ends) fails) (omega arith) (omega arith)
      ∙ sym (fit_blocked tests 0 (length q - 1) (q ++ r') (rw (last_of q r' c ends) fails) (omega arith) (omega arith))
]

pub word_range : (c : ℕ) → is_quoted_word_byte c ≡ true → (c ≡ 95) ⊎ ((97 ≤ c) × (c ≤ 122))
word_range c e = elim (le_or_lt 97 c) [
  | inl low ↦ elim (le_or_lt c 122) [
    | inl high ↦ inr (low, high)
    | inr above ↦ absurd (grind (arith, nat_tests, e))
  ]
  | inr below ↦ inl (grind (arith, nat_tests, e))
]

pub not_a_word_byte : (k : ℕ) → (k ≢ 95) → ((k < 97) ⊎ (122 < k)) → (c : ℕ) → is_quoted_word_byte c ≡ true → (c == k) ≡ false
not_a_word_byte k bar range c e = let r = word_range c e in grind (arith, nat_tests, r, range)

plain_same : (c : ℕ) (q r r' : List ℕ) → Closer c → EndsWith q c → Alike r r' → fit plain_char 0 (q ++ r) ≡ fit plain_char 0 (q ++ r')
plain_same c [] r r' closer ends alike = let some : 0 < 0 = ends.some in absurd (omega arith)
plain_same c (x ∷ []) r r' closer ends alike = let is_last : x ≡ c = ends.last in rw (is_last, closer.no_quote) refl
plain_same c (x ∷ y ∷ []) r r' closer ends alike =
    rw (alike_test (λ k. k == byte "'") false (not_a_word_byte (byte "'") (omega arith) (inl (omega arith))) alike) refl
plain_same c (x ∷ y ∷ z ∷ q) r r' closer ends alike = fit_same plain_char 0 (x ∷ y ∷ z ∷ q) r r' (omega arith)

pub char_same : (c : ℕ) (q r r' : List ℕ) → Closer c → EndsWith q c → Alike r r' → char_length (q ++ r) ≡ char_length (q ++ r')
unfolding char_length
char_same c q r r' closer ends alike =
    rw (
      plain_same c q r r' closer ends alike,
      escape_same short_escape c q r r' ends closer.short,
      escape_same decimal_escape c q r r' ends closer.decimal,
      escape_same hexadecimal_escape c q r r' ends closer.hexadecimal,
      escape_same octal_escape c q r r' ends closer.octal,
    ) refl

pub opens_at : (b : List ℕ) (n : ℕ) → quoted_word_length b ≡ n → opens_quoted b ≡ (is_at "{" 0 b && is_at "|" (1 + n) b)
unfolding opens_quoted
opens_at b n e = rw e refl

ends_tail : (x y : ℕ) (q : List ℕ) (c : ℕ) → EndsWith (x ∷ y ∷ q) c → EndsWith (y ∷ q) c
ends_tail x y q c ends =
    let index : suc (suc (length q)) - 1 ≡ suc (length q) = omega arith in
    let index' : suc (length q) - 1 ≡ length q = omega arith in
    record { some = omega arith; last = rw index' (rw index at ends.last) }

pub opens_same : (c : ℕ) (q r r' : List ℕ) → Closer c → EndsWith q c → opens_quoted (q ++ r) ≡ opens_quoted (q ++ r')
unfolding opens_quoted
opens_same c [] r r' closer ends = let some : 0 < 0 = ends.some in absurd (omega arith)
opens_same c (x ∷ []) r r' closer ends = let is_last : x ≡ c = ends.last in rw (is_last, closer.no_brace) refl
opens_same c (x ∷ y ∷ q) r r' closer ends =
    let last = last_of (y ∷ q) r c (ends_tail x y q c ends) in
    let fails : is_quoted_word_byte (get_or ((y ∷ q) ++ r) (suc (length q) - 1) 0) ≡ false = ap is_quoted_word_byte last ∙ closer.no_word in
    let run = run_blocked is_quoted_word_byte ((y ∷ q) ++ r) (suc (length q) - 1) fails in
    let n = prefix_len is_quoted_word_byte ((y ∷ q) ++ r) in
    let same_run = run_inside is_quoted_word_byte (y ∷ q) r r' (omega (arith, run)) in
    let same = byte_inside (x ∷ y ∷ q) r r' (1 + n) (omega (arith, run)) in
    opens_at ((x ∷ y ∷ q) ++ r) n refl ∙ ap (λ v. (x == byte "{") && (v == byte "|")) same ∙ sym (opens_at ((x ∷ y ∷ q) ++ r') n same_run)

pub quoted_far : (word : List ℕ) (n : ℕ) (b : List ℕ) (m : ℕ) → quoted_end word n b ≡ Some m → n + length word + 2 ≤ m
unfolding quoted_end
quoted_far word n [] m e = cc
quoted_far word n (c ∷ b) m e = elim (which (closes_quoted word (c ∷ b))) [
  | inl y ↦ let at : n + length word + 2 ≡ m = let got = rw y at e in cc in omega arith
  | inr y ↦ let far = quoted_far word (n + 1) b m (rw y at e) in omega arith
]

inside_take : (n : ℕ) (q r : List ℕ) → n + 1 ≤ length q → take n (drop 1 (q ++ r)) ≡ take n (drop 1 q)
inside_take n [] r h = absurd (omega arith)
inside_take n (x ∷ q) r h = let fits : n ≤ length q = omega arith in take-append-le n q r fits

closes_same : (word q r r' : List ℕ) → length word + 2 ≤ length q → closes_quoted word (q ++ r) ≡ closes_quoted word (q ++ r')
unfolding closes_quoted
closes_same word q r r' h =
    rw (
      byte_inside q r r' 0 (omega arith),
      inside_take (length word) q r (omega arith),
      inside_take (length word) q r' (omega arith),
      byte_inside q r r' (1 + length word) (omega arith),
    ) refl

quoted_end_same : (word : List ℕ) (n : ℕ) (q r r' : List ℕ) (m : ℕ) → quoted_end word n (q ++ r) ≡ Some m → m ≤ n + length q
    → quoted_end word n (q ++ r') ≡ Some m
unfolding quoted_end
quoted_end_same word n [] r r' m e h = let far = quoted_far word n r m e in absurd (omega arith)
quoted_end_same word n (c ∷ q) r r' m e h =
    let far = quoted_far word n (c ∷ (q ++ r)) m e in
    let same = closes_same word (c ∷ q) r r' (omega arith) in
    elim (which (closes_quoted word (c ∷ (q ++ r)))) [
      | inl y ↦ let got = rw y at e in rw (sym same ∙ y) got
      | inr y ↦ let more = rw y at e in rw (sym same ∙ y) (quoted_end_same word (n + 1) q r r' m more (omega arith))
    ]

pub quoted_same : (q r r' : List ℕ) (m : ℕ) → quoted_length (q ++ r) ≡ Some m → m ≤ length q → quoted_length (q ++ r') ≡ Some m
unfolding quoted_length
quoted_same q r r' m e h =
    let n = quoted_word_length (q ++ r) in
    let far = quoted_far (take n (drop 1 (q ++ r))) (n + 2) (drop (n + 2) (q ++ r)) m e in
    let d : drop 1 (q ++ r) ≡ drop 1 q ++ r = drop-append-le 1 q r (omega (arith, far)) in
    let d' : drop 1 (q ++ r') ≡ drop 1 q ++ r' = drop-append-le 1 q r' (omega (arith, far)) in
    let same_run : prefix_len is_quoted_word_byte (drop 1 (q ++ r')) ≡ n =
    ap (prefix_len is_quoted_word_byte) d' ∙ run_inside is_quoted_word_byte (drop 1 q) r r' (rw (sym d, length-drop) (omega (arith, far)))
    ∙ ap (prefix_len is_quoted_word_byte) (sym d) in
    let t = inside_take n q r (omega (arith, far)) in
    let t' = inside_take n q r' (omega (arith, far)) in
    let far_drop = drop-append-le (n + 2) q r (omega (arith, far)) in
    let far_drop' = drop-append-le (n + 2) q r' (omega (arith, far)) in
    let inside : quoted_end (take n (drop 1 q)) (n + 2) (drop (n + 2) q ++ r) ≡ Some m =
    ap (λ w. quoted_end w (n + 2) (drop (n + 2) q ++ r)) (sym t) ∙ ap (λ b. quoted_end (take n (drop 1 (q ++ r))) (n + 2) b) (sym far_drop) ∙ e in
    let outside = quoted_end_same (take n (drop 1 q)) (n + 2) (drop (n + 2) q) r r' m inside (rw length-drop (omega (arith, far))) in
    ap (λ k. quoted_end (take k (drop 1 (q ++ r'))) (k + 2) (drop (k + 2) (q ++ r'))) same_run
    ∙ ap (λ w. quoted_end w (n + 2) (drop (n + 2) (q ++ r'))) t'
    ∙ ap (λ b. quoted_end (take n (drop 1 q)) (n + 2) b) far_drop'
    ∙ outside
