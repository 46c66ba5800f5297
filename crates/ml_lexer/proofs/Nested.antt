-- A comment or an attribute that ends with the front ends there, whatever follows.
use Rattle.std.proofs.Common.{◌≡◌, ℕ, zero, suc, ◌+◌, ◌-◌, ◌<◌, ◌≤◌, inl, inr, List, [], ◌∷◌, ◌++◌, Bool, true, false, cond, ◌==◌, ◌&&◌, length, take}
use Rattle.std.proofs.Common.{drop, get_or, Option, Some, None, refl, ap, sym, ◌∙◌, arith, length-take, append_assoc}
use Rattle.std.proofs.lemmas.List.{take-append-drop}
use Rattle.std.proofs.lemmas.Bool.Decides.{nat_tests}
use Rattle.ml_lexer.specs.declared.trivia.Part.{Part}
use Rattle.ml_lexer.specs.declared.trivia.Part.TheVariants.{Opens, Closes, Whole, Unended}
use Rattle.ml_lexer.specs.Bytes.{is_at}
use Rattle.ml_lexer.specs.Quotes.{plain_char, short_escape, decimal_escape, hexadecimal_escape, octal_escape, fit, char_length, text_length}
use Rattle.ml_lexer.specs.Quotes.{opens_quoted, quoted_length}
use Rattle.ml_lexer.specs.Trivia.{whole, or_one_byte, plain_part, opens_comment, comment_part, size_of, depth_after, is_unended, level_end}
use Rattle.ml_lexer.specs.Trivia.{comment_length, attribute_part, attribute_length}
use Rattle.ml_lexer.proofs.Local.{Alike, same_byte, which, byte_of_front, byte_inside, and_right, quoted_far, EndsWith, Closer, text_far, text_same}
use Rattle.ml_lexer.proofs.Local.{char_same, opens_same, quoted_same, closing_parenthesis, closing_bracket}

ends_cons : (x : ℕ) (q : List ℕ) (c : ℕ) → EndsWith q c → EndsWith (x ∷ q) c
ends_cons x [] c ends = let some : 0 < 0 = ends.some in absurd (omega arith)
ends_cons x (y ∷ q) c ends =
    let index : suc (suc (length q)) - 1 ≡ suc (length q) = omega arith in
    let index' : suc (length q) - 1 ≡ length q = omega arith in
    record { some = omega arith; last = rw index (rw index' at ends.last) }

level_at : (p : List ℕ → Part) (d n x : ℕ) (b : List ℕ) (part : Part) → p (x ∷ b) ≡ part
    → level_end p d 0 n (x ∷ b) ≡ cond (is_unended part) None
    (cond (depth_after part d == 0) (Some (n + size_of part)) (level_end p (depth_after part d) (size_of part - 1) (n + 1) b))
unfolding level_end
level_at p d n x b part e = rw e refl

closes_of : (part : Part) (d : ℕ) → 0 < d → is_unended part ≡ false → (depth_after part d == 0) ≡ true → part ≡ Closes (size_of part)
closes_of (Opens n) d some u e = absurd (grind (arith, nat_tests, e))
closes_of (Closes n) d some u e = refl
closes_of (Whole n) d some u e = absurd (grind (arith, nat_tests, e))
closes_of Unended d some u e = cc

-- parts take a byte or more, and the part that closes the last level ends with this byte
pub record Steady (p : List ℕ → Part) (c : ℕ) : Type 0 where
  pub positive : (b : List ℕ) → 0 < size_of (p b)
  pub close : (b : List ℕ) (k : ℕ) → p b ≡ Closes k → get_or b (k - 1) 0 ≡ c
  pub same : (q r r' : List ℕ) → EndsWith q c → Alike r r' → is_unended (p (q ++ r)) ≡ false → size_of (p (q ++ r)) ≤ length q
      → p (q ++ r') ≡ p (q ++ r)

module _ (p : List ℕ → Part) (c : ℕ) (steady : Steady p c) where
  pub level_far : (d k n : ℕ) (b : List ℕ) (m : ℕ) → level_end p d k n b ≡ Some m → n + k < m
  unfolding level_end
  level_far d k n [] m e = cc
  level_far d (suc k) n (x ∷ b) m e = let far = level_far d k (n + 1) b m e in omega arith
  level_far d zero n (x ∷ b) m e =
      let positive = steady.positive (x ∷ b) in
      elim (which (is_unended (p (x ∷ b)))) [
        | inl u ↦ let got = rw u at e in cc
        | inr u ↦ elim (which (depth_after (p (x ∷ b)) d == 0)) [
          | inl z ↦ let got = rw (u, z) at e in let at : n + size_of (p (x ∷ b)) ≡ m = cc in omega arith
          | inr z ↦ let far = level_far (depth_after (p (x ∷ b)) d) (size_of (p (x ∷ b)) - 1) (n + 1) b m (rw (u, z) at e) in omega arith
        ]
      ]

  level_ends : (d k n : ℕ) (q r : List ℕ) → 0 < d → level_end p d k n (q ++ r) ≡ Some (n + length q) → EndsWith q c
  unfolding level_end
  level_ends d k n [] r some e = let far = level_far d k n r (n + 0) e in absurd (omega arith)
  level_ends d (suc k) n (x ∷ q) r some e = let at : n + suc (length q) ≡ (n + 1) + length q = omega arith in
      ends_cons x q c (level_ends d k (n + 1) q r some (rw at at e))
  level_ends d zero n (x ∷ q) r some e =
      let part = p (x ∷ (q ++ r)) in
      elim (which (is_unended part)) [
        | inl u ↦ let got = rw u at e in cc
        | inr u ↦ elim (which (depth_after part d == 0)) [
          | inl z ↦
              let got = rw (u, z) at e in
              let at : n + size_of part ≡ n + suc (length q) = cc in
              let last = steady.close (x ∷ (q ++ r)) (size_of part) (closes_of part d some u z) in
              let index : size_of part - 1 ≡ length q = omega arith in
              let index' : suc (length q) - 1 ≡ length q = omega arith in
              let here : get_or ((x ∷ q) ++ r) (length q) 0 ≡ c = rw index at last in
              record { some = omega arith; last = rw index' (sym (byte_of_front (x ∷ q) r (length q) (omega arith)) ∙ here) }
          | inr z ↦
              let at : n + suc (length q) ≡ (n + 1) + length q = omega arith in
              let deep : 0 < depth_after part d = grind (arith, nat_tests, z) in
              let more = rw (u, z) at e in
              ends_cons x q c (level_ends (depth_after part d) (size_of part - 1) (n + 1) q r deep (rw at at more))
        ]
      ]

  pub level_same : (d k n : ℕ) (q r r' : List ℕ) → 0 < d → Alike r r' → level_end p d k n (q ++ r) ≡ Some (n + length q)
      → level_end p d k n (q ++ r') ≡ Some (n + length q)
  unfolding level_end
  level_same d k n [] r r' some alike e = let far = level_far d k n r (n + 0) e in absurd (omega arith)
  level_same d (suc k) n (x ∷ q) r r' some alike e = let at : n + suc (length q) ≡ (n + 1) + length q = omega arith in
      rw at (level_same d k (n + 1) q r r' some alike (rw at at e))
  level_same d zero n (x ∷ q) r r' some alike e =
      let part = p (x ∷ (q ++ r)) in
      let ends = level_ends d 0 n (x ∷ q) r some e in
      elim (which (is_unended part)) [
        | inl u ↦ let got = rw u at e in cc
        | inr u ↦ elim (which (depth_after part d == 0)) [
          | inl z ↦
              let got = rw (u, z) at e in
              let at : n + size_of part ≡ n + suc (length q) = cc in
              let same = steady.same (x ∷ q) r r' ends alike u (omega arith) in
              level_at p d n x (q ++ r') part same ∙ (rw (u, z) got)
          | inr z ↦
              let at : n + suc (length q) ≡ (n + 1) + length q = omega arith in
              let deep : 0 < depth_after part d = grind (arith, nat_tests, z) in
              let more = rw (u, z) at e in
              let far = level_far (depth_after part d) (size_of part - 1) (n + 1) (q ++ r) (n + suc (length q)) more in
              let same = steady.same (x ∷ q) r r' ends alike u (omega arith) in
              level_at p d n x (q ++ r') part same
              ∙ (rw (u, z, at) (level_same (depth_after part d) (size_of part - 1) (n + 1) q r r' deep alike (rw at at more)))
        ]
      ]

whole_positive : (o : Option ℕ) → ((m : ℕ) → o ≡ Some m → 0 < m) → 0 < size_of (whole o)
whole_positive None f = omega arith
whole_positive (Some m) f = f m refl

one_positive : (o : Option ℕ) → ((m : ℕ) → o ≡ Some m → 0 < m) → 0 < size_of (or_one_byte o)
one_positive None f = omega arith
one_positive (Some m) f = f m refl

positive_step : (t : Bool) (a : ℕ) (rest : Option ℕ) → 0 < a → ((m : ℕ) → rest ≡ Some m → 0 < m) → (m : ℕ) → cond t (Some a) rest ≡ Some m → 0 < m
positive_step true a rest h f m e = let same : a ≡ m = cc in omega arith
positive_step false a rest h f m e = f m e

char_positive : (b : List ℕ) (m : ℕ) → char_length b ≡ Some m → 0 < m
unfolding char_length
char_positive b =
    positive_step (fit plain_char 0 b) 3 _ (omega arith)
    (positive_step (fit short_escape 0 b) 4 _ (omega arith)
    (positive_step (fit decimal_escape 0 b) 6 _ (omega arith)
    (positive_step (fit hexadecimal_escape 0 b) 6 _ (omega arith) (positive_step (fit octal_escape 0 b) 7 None (omega arith) (λ m e. cc)))))

quoted_positive : (b : List ℕ) (m : ℕ) → quoted_length b ≡ Some m → 0 < m
unfolding quoted_length
quoted_positive b m e = let far = quoted_far _ _ _ m e in omega (arith, far)

plain_at : (b : List ℕ) (t o : Bool) → is_at "\"" 0 b ≡ t → opens_quoted b ≡ o
    → plain_part b ≡ cond t (whole (text_length b)) (cond o (whole (quoted_length b)) (or_one_byte (char_length b)))
unfolding plain_part
plain_at b t o e f = rw (e, f) refl

plain_positive : (b : List ℕ) → 0 < size_of (plain_part b)
plain_positive b = elim (which (is_at "\"" 0 b)) [
  | inl y ↦ rw (plain_at b true _ y refl) (whole_positive (text_length b) (λ m e. let far = text_far 1 false (drop 1 b) m e in omega arith))
  | inr y ↦ elim (which (opens_quoted b)) [
    | inl o ↦ rw (plain_at b false true y o) (whole_positive (quoted_length b) (quoted_positive b))
    | inr o ↦ rw (plain_at b false false y o) (one_positive (char_length b) (char_positive b))
  ]
]

whole_not_closes : (o : Option ℕ) (k : ℕ) → whole o ≡ Closes k → ⊥
whole_not_closes None k e = cc
whole_not_closes (Some m) k e = cc

one_not_closes : (o : Option ℕ) (k : ℕ) → or_one_byte o ≡ Closes k → ⊥
one_not_closes None k e = cc
one_not_closes (Some m) k e = cc

plain_not_closes : (b : List ℕ) (k : ℕ) → plain_part b ≡ Closes k → ⊥
plain_not_closes b k e = elim (which (is_at "\"" 0 b)) [
  | inl y ↦ whole_not_closes (text_length b) k (sym (plain_at b true _ y refl) ∙ e)
  | inr y ↦ elim (which (opens_quoted b)) [
    | inl o ↦ whole_not_closes (quoted_length b) k (sym (plain_at b false true y o) ∙ e)
    | inr o ↦ one_not_closes (char_length b) k (sym (plain_at b false false y o) ∙ e)
  ]
]

whole_same : (o o' : Option ℕ) (n : ℕ) → ((m : ℕ) → o ≡ Some m → m ≤ n → o' ≡ Some m) → is_unended (whole o) ≡ false → size_of (whole o) ≤ n
    → whole o' ≡ whole o
whole_same None o' n f u s = cc
whole_same (Some m) o' n f u s = ap whole (f m refl s)

pub text_length_same : (q r r' : List ℕ) (m : ℕ) → 0 < length q → text_length (q ++ r) ≡ Some m → m ≤ length q → text_length (q ++ r') ≡ Some m
text_length_same [] r r' m some e h = absurd (omega arith)
text_length_same (x ∷ q) r r' m some e h = text_same 1 false q r r' m e (omega arith)

steady_plain : (c : ℕ) (q r r' : List ℕ) → Closer c → EndsWith q c → Alike r r' → is_unended (plain_part (q ++ r)) ≡ false
    → size_of (plain_part (q ++ r)) ≤ length q → plain_part (q ++ r') ≡ plain_part (q ++ r)
steady_plain c q r r' closer ends alike u s =
    let some : 0 < length q = ends.some in
    let first = byte_inside q r r' 0 some in
    let opens = opens_same c q r r' closer ends in
    elim (which (is_at "\"" 0 (q ++ r))) [
      | inl y ↦
          let now = plain_at (q ++ r) true _ y refl in
          let later = plain_at (q ++ r') true _ (ap (λ v. v == 34) (sym first) ∙ y) refl in
          later ∙ whole_same (text_length (q ++ r)) (text_length (q ++ r')) (length q) (λ m. text_length_same q r r' m some)
          (ap is_unended (sym now) ∙ u) (rw now at s) ∙ sym now
      | inr y ↦
          let y' : is_at "\"" 0 (q ++ r') ≡ false = ap (λ v. v == 34) (sym first) ∙ y in
          elim (which (opens_quoted (q ++ r))) [
            | inl o ↦
                let now = plain_at (q ++ r) false true y o in
                let later = plain_at (q ++ r') false true y' (sym opens ∙ o) in
                later ∙ whole_same (quoted_length (q ++ r)) (quoted_length (q ++ r')) (length q) (quoted_same q r r') (ap is_unended (sym now) ∙ u)
                (rw now at s) ∙ sym now
            | inr o ↦
                let now = plain_at (q ++ r) false false y o in
                let later = plain_at (q ++ r') false false y' (sym opens ∙ o) in
                later ∙ ap or_one_byte (sym (char_same c q r r' closer ends alike)) ∙ sym now
          ]
    ]

closes_comment : List ℕ → Bool
closes_comment b = is_at "*" 0 b && is_at ")" 1 b

comment_at : (b : List ℕ) (t s : Bool) → opens_comment b ≡ t → closes_comment b ≡ s
    → comment_part b ≡ cond t (Opens 2) (cond s (Closes 2) (plain_part b))
unfolding comment_part closes_comment
comment_at b t s e f = rw (e, f) refl

is_byte : (c k : ℕ) → (c == k) ≡ true → c ≡ k
is_byte c k e = grind (arith, nat_tests, e)

comment_positive : (b : List ℕ) → 0 < size_of (comment_part b)
comment_positive b = elim (which (opens_comment b)) [
  | inl o ↦ rw (comment_at b true _ o refl) (omega arith)
  | inr o ↦ elim (which (closes_comment b)) [
    | inl k ↦ rw (comment_at b false true o k) (omega arith)
    | inr k ↦ rw (comment_at b false false o k) (plain_positive b)
  ]
]

comment_close : (b : List ℕ) (k : ℕ) → comment_part b ≡ Closes k → get_or b (k - 1) 0 ≡ 41
unfolding closes_comment
comment_close b k e = elim (which (opens_comment b)) [
  | inl o ↦ let got = sym (comment_at b true _ o refl) ∙ e in cc
  | inr o ↦ elim (which (closes_comment b)) [
    | inl y ↦
        let got = sym (comment_at b false true o y) ∙ e in
        let two : 2 ≡ k = cc in
        let index : k - 1 ≡ 1 = omega arith in
        rw index (is_byte _ _ (and_right _ _ y))
    | inr y ↦ absurd (plain_not_closes b k (sym (comment_at b false false o y) ∙ e))
  ]
]

comment_same : (q r r' : List ℕ) → EndsWith q 41 → Alike r r' → opens_comment (q ++ r) ≡ opens_comment (q ++ r')
    → closes_comment (q ++ r) ≡ closes_comment (q ++ r') → is_unended (comment_part (q ++ r)) ≡ false → size_of (comment_part (q ++ r)) ≤ length q
    → comment_part (q ++ r') ≡ comment_part (q ++ r)
comment_same q r r' ends alike opens closes u s = elim (which (opens_comment (q ++ r))) [
  | inl o ↦ comment_at (q ++ r') true _ (sym opens ∙ o) refl ∙ sym (comment_at (q ++ r) true _ o refl)
  | inr o ↦ elim (which (closes_comment (q ++ r))) [
    | inl k ↦ comment_at (q ++ r') false true (sym opens ∙ o) (sym closes ∙ k) ∙ sym (comment_at (q ++ r) false true o k)
    | inr k ↦
        let now = comment_at (q ++ r) false false o k in
        comment_at (q ++ r') false false (sym opens ∙ o) (sym closes ∙ k) ∙ steady_plain 41 q r r' closing_parenthesis ends alike
        (ap is_unended (sym now) ∙ u) (rw now at s) ∙ sym now
  ]
]

comment_steady_same : (q r r' : List ℕ) → EndsWith q 41 → Alike r r' → is_unended (comment_part (q ++ r)) ≡ false
    → size_of (comment_part (q ++ r)) ≤ length q → comment_part (q ++ r') ≡ comment_part (q ++ r)
unfolding closes_comment
comment_steady_same [] r r' ends alike = let some : 0 < 0 = ends.some in absurd (omega arith)
comment_steady_same (x ∷ []) r r' ends alike = let is_last : x ≡ 41 = ends.last in
    comment_same (x ∷ []) r r' ends alike (rw is_last refl) (rw is_last refl)
comment_steady_same (x ∷ y ∷ q) r r' ends alike = comment_same (x ∷ y ∷ q) r r' ends alike refl refl

comment_steady : Steady comment_part 41
comment_steady = record { positive = comment_positive; close = comment_close; same = comment_steady_same }

pub comment_exact : (front rest rest' : List ℕ) → Alike rest rest' → comment_length (front ++ rest) ≡ Some (length front)
    → comment_length (front ++ rest') ≡ Some (length front)
unfolding comment_length
comment_exact [] rest rest' alike e = let far = level_far comment_part 41 comment_steady 1 0 2 (drop 2 rest) 0 e in absurd (omega arith)
comment_exact (x ∷ []) rest rest' alike e = let far = level_far comment_part 41 comment_steady 1 0 2 (drop 1 rest) 1 e in absurd (omega arith)
comment_exact (x ∷ y ∷ f) rest rest' alike e =
    let at : suc (suc (length f)) ≡ 2 + length f = omega arith in
    rw at (level_same comment_part 41 comment_steady 1 0 2 f rest rest' (omega arith) alike (rw at at e))

alike_more : (q r r' : List ℕ) → Alike r r' → Alike (q ++ r) (q ++ r')
alike_more [] r r' alike = alike
alike_more (x ∷ q) r r' alike = same_byte

comment_inside : (q r r' : List ℕ) (m : ℕ) → Alike r r' → comment_length (q ++ r) ≡ Some m → m ≤ length q → comment_length (q ++ r') ≡ Some m
comment_inside q r r' m alike e h =
    let len : length (take m q) ≡ m = rw length-take (omega arith) in
    let split : take m q ++ (drop m q ++ r) ≡ q ++ r = sym (append_assoc (take m q) (drop m q) r) ∙ ap (λ b. b ++ r) (take-append-drop m q) in
    let split' : take m q ++ (drop m q ++ r') ≡ q ++ r' = sym (append_assoc (take m q) (drop m q) r') ∙ ap (λ b. b ++ r') (take-append-drop m q) in
    let exact = comment_exact (take m q) (drop m q ++ r) (drop m q ++ r') (alike_more (drop m q) r r' alike)
    (ap comment_length split ∙ e ∙ ap Some (sym len)) in
    ap comment_length (sym split') ∙ exact ∙ ap Some len

attribute_at : (b : List ℕ) (t o c : Bool) → opens_comment b ≡ t → is_at "[" 0 b ≡ o → is_at "]" 0 b ≡ c
    → attribute_part b ≡ cond t (whole (comment_length b)) (cond o (Opens 1) (cond c (Closes 1) (plain_part b)))
unfolding attribute_part
attribute_at b t o c e f g = rw (e, f, g) refl

comment_length_positive : (b : List ℕ) (m : ℕ) → comment_length b ≡ Some m → 0 < m
unfolding comment_length
comment_length_positive b m e = let far = level_far comment_part 41 comment_steady 1 0 2 (drop 2 b) m e in omega arith

attribute_positive : (b : List ℕ) → 0 < size_of (attribute_part b)
attribute_positive b = elim (which (opens_comment b)) [
  | inl t ↦ rw (attribute_at b true _ _ t refl refl) (whole_positive (comment_length b) (comment_length_positive b))
  | inr t ↦ elim (which (is_at "[" 0 b)) [
    | inl o ↦ rw (attribute_at b false true _ t o refl) (omega arith)
    | inr o ↦ elim (which (is_at "]" 0 b)) [
      | inl c ↦ rw (attribute_at b false false true t o c) (omega arith)
      | inr c ↦ rw (attribute_at b false false false t o c) (plain_positive b)
    ]
  ]
]

attribute_close : (b : List ℕ) (k : ℕ) → attribute_part b ≡ Closes k → get_or b (k - 1) 0 ≡ 93
attribute_close b k e = elim (which (opens_comment b)) [
  | inl t ↦ absurd (whole_not_closes (comment_length b) k (sym (attribute_at b true _ _ t refl refl) ∙ e))
  | inr t ↦ elim (which (is_at "[" 0 b)) [
    | inl o ↦ let got = sym (attribute_at b false true _ t o refl) ∙ e in cc
    | inr o ↦ elim (which (is_at "]" 0 b)) [
      | inl c ↦
          let got = sym (attribute_at b false false true t o c) ∙ e in
          let one : 1 ≡ k = cc in
          let index : k - 1 ≡ 0 = omega arith in
          rw index (is_byte _ _ c)
      | inr c ↦ absurd (plain_not_closes b k (sym (attribute_at b false false false t o c) ∙ e))
    ]
  ]
]

attribute_same : (q r r' : List ℕ) → EndsWith q 93 → Alike r r' → opens_comment (q ++ r) ≡ opens_comment (q ++ r')
    → is_unended (attribute_part (q ++ r)) ≡ false → size_of (attribute_part (q ++ r)) ≤ length q → attribute_part (q ++ r') ≡ attribute_part (q ++ r)
attribute_same q r r' ends alike opens u s =
    let some : 0 < length q = ends.some in
    let first = byte_inside q r r' 0 some in
    elim (which (opens_comment (q ++ r))) [
      | inl t ↦
          let now = attribute_at (q ++ r) true _ _ t refl refl in
          attribute_at (q ++ r') true _ _ (sym opens ∙ t) refl refl ∙ whole_same (comment_length (q ++ r)) (comment_length (q ++ r')) (length q)
          (λ m. comment_inside q r r' m alike) (ap is_unended (sym now) ∙ u) (rw now at s) ∙ sym now
      | inr t ↦ elim (which (is_at "[" 0 (q ++ r))) [
        | inl o ↦ attribute_at (q ++ r') false true _ (sym opens ∙ t) (ap (λ v. v == 91) (sym first) ∙ o) refl
            ∙ sym (attribute_at (q ++ r) false true _ t o refl)
        | inr o ↦ elim (which (is_at "]" 0 (q ++ r))) [
          | inl c ↦ attribute_at (q ++ r') false false true (sym opens ∙ t) (ap (λ v. v == 91) (sym first) ∙ o) (ap (λ v. v == 93) (sym first) ∙ c)
              ∙ sym (attribute_at (q ++ r) false false true t o c)
          | inr c ↦
              let now = attribute_at (q ++ r) false false false t o c in
              attribute_at (q ++ r') false false false (sym opens ∙ t) (ap (λ v. v == 91) (sym first) ∙ o) (ap (λ v. v == 93) (sym first) ∙ c)
              ∙ steady_plain 93 q r r' closing_bracket ends alike (ap is_unended (sym now) ∙ u) (rw now at s) ∙ sym now
        ]
      ]
    ]

attribute_steady_same : (q r r' : List ℕ) → EndsWith q 93 → Alike r r' → is_unended (attribute_part (q ++ r)) ≡ false
    → size_of (attribute_part (q ++ r)) ≤ length q → attribute_part (q ++ r') ≡ attribute_part (q ++ r)
attribute_steady_same [] r r' ends alike = let some : 0 < 0 = ends.some in absurd (omega arith)
attribute_steady_same (x ∷ []) r r' ends alike = let is_last : x ≡ 93 = ends.last in attribute_same (x ∷ []) r r' ends alike (rw is_last refl)
attribute_steady_same (x ∷ y ∷ q) r r' ends alike = attribute_same (x ∷ y ∷ q) r r' ends alike refl

attribute_steady : Steady attribute_part 93
attribute_steady = record { positive = attribute_positive; close = attribute_close; same = attribute_steady_same }

pub attribute_exact : (front rest rest' : List ℕ) → Alike rest rest' → attribute_length (front ++ rest) ≡ Some (length front)
    → attribute_length (front ++ rest') ≡ Some (length front)
unfolding attribute_length
attribute_exact [] rest rest' alike e = let far = level_far attribute_part 93 attribute_steady 1 0 2 (drop 2 rest) 0 e in absurd (omega arith)
attribute_exact (x ∷ []) rest rest' alike e = let far = level_far attribute_part 93 attribute_steady 1 0 2 (drop 1 rest) 1 e in absurd (omega arith)
attribute_exact (x ∷ y ∷ f) rest rest' alike e =
    let at : suc (suc (length f)) ≡ 2 + length f = omega arith in
    rw at (level_same attribute_part 93 attribute_steady 1 0 2 f rest rest' (omega arith) alike (rw at at e))
