-- A mark or a sign that ends with the front is the same whatever follows, if the first byte behind is alike.
use Rattle.std.proofs.Common.{◌≡◌, ℕ, ◌+◌, ◌<◌, inl, inr, List, [], ◌∷◌, ◌++◌, Bool, true, false, cond, ◌==◌, ◌&&◌, length, drop, get_or, nat_lt}
use Rattle.std.proofs.Common.{refl, ap, sym, ◌∙◌, arith}
use Rattle.std.specs.Prelude.{codes}
use Rattle.std.specs.Str.{byte}
use Rattle.std.proofs.lemmas.Bool.Decides.{nat_tests}
use Rattle.rotor_base.specs.declared.token.Class.{Class}
use Rattle.rotor_base.specs.declared.token.Class.TheVariants as class
use Rattle.ml_lexer.specs.declared.piece.Piece.{Piece}
use Rattle.ml_lexer.specs.declared.piece.Piece.TheVariants as piece
use Rattle.ml_lexer.specs.Bytes.{among, is_at, is_quoted_word_byte, operator_length}
use Rattle.ml_lexer.specs.Pieces.{operator_at, mark_length, mark_of, begins_operator, sign_at}
use Rattle.ml_lexer.proofs.Local.{Alike, both_end, same_byte, both_words, which, alike_test, and_left, and_right, and_false}
use Rattle.ml_lexer.proofs.Signs.{among_none, operator_same, operator_alone}

-- a byte that begins a word is none of these
pub word_is_not : (k : ℕ) → is_quoted_word_byte k ≡ false → (c : ℕ) → is_quoted_word_byte c ≡ true → (c == k) ≡ false
word_is_not k nay c e = elim (which (c == k)) [
  | inl y ↦
      let same : c ≡ k = grind (arith, nat_tests, y) in
      let wrong : true ≡ false = sym e ∙ ap is_quoted_word_byte same ∙ nay in
      cc
  | inr y ↦ y
]

-- the tests of the first two bytes
abbrev two_bytes : ℕ → ℕ → ℕ
two_bytes a b =
    cond (a == byte "[" && among "|<>%" b) 2 (
    cond (a == byte "{" && b == byte "%") 2 (
    cond (a == byte "|" && b == byte "]") 2 (
    cond (a == byte ";" && b == byte ";") 2 (
    cond (a == byte "." && b == byte ".") 2 (
    cond (a == byte ":" && among ":=>" b) 2 (
    cond (among "()[]{};,.:" a) 1 0))))))

pub mark_tests : (b : List ℕ) (t : Bool) → (is_at "[" 0 b && is_at "%" 1 b && is_at "%" 2 b) ≡ t
    → mark_length b ≡ cond t 3 (two_bytes (get_or b 0 0) (get_or b 1 0))
unfolding mark_length
mark_tests b t e = rw e refl

no_percent : (c : ℕ) → is_quoted_word_byte c ≡ true → (c == byte "%") ≡ false
no_percent = word_is_not (byte "%") refl

mark_long : (x y : ℕ) (f rest rest' : List ℕ) → Alike rest rest' → mark_length ((x ∷ y ∷ f) ++ rest') ≡ mark_length ((x ∷ y ∷ f) ++ rest)
mark_long x y [] rest rest' alike =
    let third = alike_test (λ v. v == byte "%") false no_percent alike in
    mark_tests (x ∷ y ∷ rest') _ (ap (λ v. x == byte "[" && y == byte "%" && v) (sym third)) ∙ sym (mark_tests (x ∷ y ∷ rest) _ refl)
mark_long x y (z ∷ f) rest rest' alike = mark_tests ((x ∷ y ∷ z ∷ f) ++ rest') _ refl ∙ sym (mark_tests ((x ∷ y ∷ z ∷ f) ++ rest) _ refl)

two_of_percent : (x c : ℕ) → (x == byte "[" && c == byte "%") ≡ true → two_bytes x c ≡ 2
two_of_percent x c e =
    let first : (x == byte "[") ≡ true = and_left (x == byte "[") (c == byte "%") e in
    let second : (c == byte "%") ≡ true = and_right (x == byte "[") (c == byte "%") e in
    let a : x ≡ byte "[" = grind (arith, nat_tests, first) in
    let b : c ≡ byte "%" = grind (arith, nat_tests, second) in
    rw (a, b) refl

and_three : (a b c : Bool) → (a && b) ≡ false → (a && b && c) ≡ false
and_three true true c e = cc
and_three true false c e = refl
and_three false b c e = refl

long_cond : (t : Bool) → nat_lt 1 (cond t 3 2) ≡ true
long_cond true = refl
long_cond false = refl

mark_short_byte : (x c : ℕ) (r r' : List ℕ) → nat_lt 1 (mark_length (x ∷ c ∷ r)) ≡ false → mark_length (x ∷ c ∷ r') ≡ mark_length (x ∷ c ∷ r)
mark_short_byte x c r r' short = elim (which (x == byte "[" && c == byte "%")) [
  | inl y ↦
      let now = mark_tests (x ∷ c ∷ r) _ refl in
      let two = two_of_percent x c y in
      let long : nat_lt 1 (mark_length (x ∷ c ∷ r)) ≡ true =
      ap (nat_lt 1) (now ∙ ap (λ v. cond (is_at "[" 0 (x ∷ c ∷ r) && is_at "%" 1 (x ∷ c ∷ r) && is_at "%" 2 (x ∷ c ∷ r)) 3 v) two)
      ∙ long_cond (is_at "[" 0 (x ∷ c ∷ r) && is_at "%" 1 (x ∷ c ∷ r) && is_at "%" 2 (x ∷ c ∷ r)) in
      let wrong : true ≡ false = sym long ∙ short in
      cc
  | inr y ↦ mark_tests (x ∷ c ∷ r') false (and_three (x == byte "[") (c == byte "%") (is_at "%" 2 (x ∷ c ∷ r')) y)
      ∙ sym (mark_tests (x ∷ c ∷ r) false (and_three (x == byte "[") (c == byte "%") (is_at "%" 2 (x ∷ c ∷ r)) y))
]

six_none : (a b c d e f : Bool) (n : ℕ)
    → cond (a && false) 2 (cond (b && false) 2 (cond (c && false) 2 (cond (d && false) 2 (cond (e && false) 2 (cond (f && false) 2 n))))) ≡ n
six_none a b c d e f n = rw (and_false a, and_false b, and_false c, and_false d, and_false e, and_false f) refl

six_false : (a b c d e f p q r s t u : Bool) (n : ℕ) → p ≡ false → q ≡ false → r ≡ false → s ≡ false → t ≡ false → u ≡ false
    → cond (a && p) 2 (cond (b && q) 2 (cond (c && r) 2 (cond (d && s) 2 (cond (e && t) 2 (cond (f && u) 2 n))))) ≡ n
six_false a b c d e f p q r s t u n g h i j k l = rw (g, h, i, j, k, l) (six_none a b c d e f n)

two_of_word : (x c : ℕ) → is_quoted_word_byte c ≡ true → two_bytes x c ≡ cond (among "()[]{};,.:" x) 1 0
two_of_word x c e =
    six_false (x == byte "[") (x == byte "{") (x == byte "|") (x == byte ";") (x == byte ".") (x == byte ":") (among "|<>%" c) (c == byte "%")
    (c == byte "]") (c == byte ";") (c == byte ".") (among ":=>" c) (cond (among "()[]{};,.:" x) 1 0)
    (among_none is_quoted_word_byte (codes "|<>%") c refl e) (word_is_not (byte "%") refl c e) (word_is_not (byte "]") refl c e)
    (word_is_not (byte ";") refl c e) (word_is_not (byte ".") refl c e) (among_none is_quoted_word_byte (codes ":=>") c refl e)

mark_word : (x c : ℕ) (r : List ℕ) → is_quoted_word_byte c ≡ true → mark_length (x ∷ c ∷ r) ≡ cond (among "()[]{};,.:" x) 1 0
mark_word x c r e =
    let first : (x == byte "[" && c == byte "%") ≡ false = ap (λ v. x == byte "[" && v) (no_percent c e) ∙ and_false (x == byte "[") in
    mark_tests (x ∷ c ∷ r) false (and_three (x == byte "[") (c == byte "%") (is_at "%" 2 (x ∷ c ∷ r)) first) ∙ two_of_word x c e

mark_short : (x : ℕ) (rest rest' : List ℕ) → Alike rest rest' → nat_lt 1 (mark_length (x ∷ rest)) ≡ false
    → mark_length (x ∷ rest') ≡ mark_length (x ∷ rest)
mark_short x rest rest' both_end short = refl
mark_short x rest rest' (same_byte {c = c} {r = r} {r' = r'}) short = mark_short_byte x c r r' short
mark_short x rest rest' (both_words {c = c} {c' = c'} {r = r} {r' = r'} h h') short = mark_word x c' r' h' ∙ sym (mark_word x c r h)

pub sign_tests : (b : List ℕ) (m : ℕ) (t : Bool) → mark_length b ≡ m → begins_operator b ≡ t
    → sign_at b ≡ cond (nat_lt 1 m) (piece.Lexeme class.Mark m) (cond t (operator_at b) (mark_of m))
unfolding sign_at
sign_tests b m t e f = rw (e, f) refl

operator_first : (b b' : List ℕ) → get_or b 0 0 ≡ get_or b' 0 0 → begins_operator b' ≡ begins_operator b
unfolding begins_operator
operator_first b b' e = rw e refl

-- if both sides of a choice are the same, so is the choice
pub cond_same : (t : Bool) {a a' c c' p : Piece} → (a ≡ p → a' ≡ p) → (c ≡ p → c' ≡ p) → cond t a c ≡ p → cond t a' c' ≡ p
cond_same true f g e = f e
cond_same false f g e = g e

operator_positive : (b : List ℕ) (k : Class) → operator_at b ≡ piece.Lexeme k 0 → ⊥
unfolding operator_at
operator_positive b k e = let n : 1 + operator_length (drop 1 b) ≡ 0 = cc in omega (arith, n)

lexeme_size : (k kind : Class) (n m : ℕ) → ◌≡◌ {A = Piece} (piece.Lexeme kind n) (piece.Lexeme k m) → n ≡ m
lexeme_size k kind n m e = cc

mark_of_cond : (t : Bool) (m : ℕ) (k : Class) → cond t (piece.Lexeme class.Mark m) piece.Bad ≡ piece.Lexeme k 0 → (t ≡ true) × (m ≡ 0)
mark_of_cond true m k e = (refl, lexeme_size k class.Mark m 0 e)
mark_of_cond false m k e = cc

mark_of_positive : (m : ℕ) (k : Class) → mark_of m ≡ piece.Lexeme k 0 → ⊥
mark_of_positive m k e =
    let got = mark_of_cond (nat_lt 0 m) m k e in
    let more = got.0 in
    let none = got.1 in
    absurd (grind (arith, nat_tests, more, none))

mark_positive : (m : ℕ) (k : Class) → nat_lt 1 m ≡ true → ◌≡◌ {A = Piece} (piece.Lexeme class.Mark m) (piece.Lexeme k 0) → ⊥
mark_positive m k t e = let none = lexeme_size k class.Mark m 0 e in absurd (grind (arith, nat_tests, t, none))

pub sign_positive : (b : List ℕ) (k : Class) → sign_at b ≡ piece.Lexeme k 0 → ⊥
sign_positive b k e =
    let got = sym (sign_tests b _ _ refl refl) ∙ e in
    elim (which (nat_lt 1 (mark_length b))) [
      | inl y ↦ mark_positive (mark_length b) k y (rw y at got)
      | inr y ↦ elim (which (begins_operator b)) [
        | inl o ↦ operator_positive b k (rw (y, o) at got)
        | inr o ↦ mark_of_positive (mark_length b) k (rw (y, o) at got)
      ]
    ]

sign_from : (k : Class) (q rest rest' : List ℕ) → Alike rest rest' → 0 < length q → mark_length (q ++ rest') ≡ mark_length (q ++ rest)
    → begins_operator (q ++ rest') ≡ begins_operator (q ++ rest) → sign_at (q ++ rest) ≡ piece.Lexeme k (length q)
    → sign_at (q ++ rest') ≡ piece.Lexeme k (length q)
sign_from k q rest rest' alike some marks operators e =
    sign_tests (q ++ rest') _ _ marks operators
    ∙ cond_same (nat_lt 1 (mark_length (q ++ rest))) (λ h. h) (cond_same (begins_operator (q ++ rest)) (operator_same k q rest rest' alike) (λ h. h))
    (sym (sign_tests (q ++ rest) _ _ refl refl) ∙ e)

pub sign_same : (k : Class) (front rest rest' : List ℕ) → Alike rest rest' → sign_at (front ++ rest) ≡ piece.Lexeme k (length front)
    → sign_at (front ++ rest') ≡ piece.Lexeme k (length front)
sign_same k [] rest rest' alike e = absurd (sign_positive rest k e)
sign_same k (x ∷ []) rest rest' alike e =
    let operators = operator_first (x ∷ rest) (x ∷ rest') refl in
    elim (which (nat_lt 1 (mark_length (x ∷ rest)))) [
      | inl y ↦
          let got = sym (sign_tests (x ∷ rest) _ _ refl refl) ∙ e in
          let size = lexeme_size k class.Mark (mark_length (x ∷ rest)) 1 (rw y at got) in
          absurd (grind (arith, nat_tests, y, size))
      | inr y ↦ sign_from k (x ∷ []) rest rest' alike (omega arith) (mark_short x rest rest' alike y) operators e
    ]
sign_same k (x ∷ y ∷ f) rest rest' alike e = sign_from k (x ∷ y ∷ f) rest rest' alike (omega arith) (mark_long x y f rest rest' alike)
    (operator_first ((x ∷ y ∷ f) ++ rest) ((x ∷ y ∷ f) ++ rest') refl) e

-- a mark or a sign that ends with the front, if nothing follows
short_choice : (t a b c d e f z : Bool) → nat_lt 1 (cond t 3 (cond a 2 (cond b 2 (cond c 2 (cond d 2 (cond e 2 (cond f 2 (cond z 1 0)))))))) ≡ false
    → ◌≡◌ {A = ℕ} (cond t 3 (cond a 2 (cond b 2 (cond c 2 (cond d 2 (cond e 2 (cond f 2 (cond z 1 0)))))))) (cond z 1 0)
short_choice true a b c d e f z h = cc
short_choice false true b c d e f z h = cc
short_choice false false true c d e f z h = cc
short_choice false false false true d e f z h = cc
short_choice false false false false true e f z h = cc
short_choice false false false false false true f z h = cc
short_choice false false false false false false true z h = cc
short_choice false false false false false false false z h = refl

mark_one : (x : ℕ) → mark_length (x ∷ []) ≡ cond (among "()[]{};,.:" x) 1 0
mark_one x =
    mark_tests (x ∷ []) false (and_three (x == byte "[") (is_at "%" 1 (x ∷ [])) (is_at "%" 2 (x ∷ [])) (and_false (x == byte "[")))
    ∙ six_none (x == byte "[") (x == byte "{") (x == byte "|") (x == byte ";") (x == byte ".") (x == byte ":") (cond (among "()[]{};,.:" x) 1 0)

mark_short_alone : (x : ℕ) (rest : List ℕ) → nat_lt 1 (mark_length (x ∷ rest)) ≡ false → mark_length (x ∷ []) ≡ mark_length (x ∷ rest)
mark_short_alone x rest short =
    let c = get_or rest 0 0 in
    let t = is_at "[" 0 (x ∷ rest) && is_at "%" 1 (x ∷ rest) && is_at "%" 2 (x ∷ rest) in
    let now : mark_length (x ∷ rest) ≡ cond t 3 (two_bytes x c) = mark_tests (x ∷ rest) t refl in
    let low : nat_lt 1 (cond t 3 (two_bytes x c)) ≡ false = ap (nat_lt 1) (sym now) ∙ short in
    mark_one x
    ∙ sym (short_choice t (x == byte "[" && among "|<>%" c) (x == byte "{" && c == byte "%") (x == byte "|" && c == byte "]")
    (x == byte ";" && c == byte ";") (x == byte "." && c == byte ".") (x == byte ":" && among ":=>" c) (among "()[]{};,.:" x) low)
    ∙ sym now

and_last : (a b : Bool) → (a && b && false) ≡ false
and_last true b = and_false b
and_last false b = refl

mark_two_alone : (k : Class) (x y : ℕ) (rest : List ℕ) → sign_at (x ∷ y ∷ rest) ≡ piece.Lexeme k 2
    → mark_length (x ∷ y ∷ []) ≡ mark_length (x ∷ y ∷ rest)
mark_two_alone k x y rest e =
    let b = x ∷ y ∷ rest in
    elim (which (is_at "[" 0 b && is_at "%" 1 b && is_at "%" 2 b)) [
      | inl t ↦
          let three : mark_length b ≡ 3 = mark_tests b true t in
          let got : ◌≡◌ {A = Piece} (piece.Lexeme class.Mark 3) (piece.Lexeme k 2) = sym (sign_tests b 3 _ three refl) ∙ e in
          let size = lexeme_size k class.Mark 3 2 got in
          absurd (omega (arith, size))
      | inr t ↦ mark_tests (x ∷ y ∷ []) false (and_last (x == byte "[") (y == byte "%")) ∙ sym (mark_tests b false t)
    ]

sign_from_alone : (k : Class) (q rest : List ℕ) → mark_length (q ++ []) ≡ mark_length (q ++ rest)
    → begins_operator (q ++ []) ≡ begins_operator (q ++ rest) → sign_at (q ++ rest) ≡ piece.Lexeme k (length q)
    → sign_at (q ++ []) ≡ piece.Lexeme k (length q)
sign_from_alone k q rest marks operators e =
    sign_tests (q ++ []) _ _ marks operators
    ∙ cond_same (nat_lt 1 (mark_length (q ++ rest))) (λ h. h) (cond_same (begins_operator (q ++ rest)) (operator_alone k q rest) (λ h. h))
    (sym (sign_tests (q ++ rest) _ _ refl refl) ∙ e)

pub sign_alone : (k : Class) (front rest : List ℕ) → sign_at (front ++ rest) ≡ piece.Lexeme k (length front)
    → sign_at (front ++ []) ≡ piece.Lexeme k (length front)
sign_alone k [] rest e = absurd (sign_positive rest k e)
sign_alone k (x ∷ []) rest e =
    elim (which (nat_lt 1 (mark_length (x ∷ rest)))) [
      | inl y ↦
          let got = sym (sign_tests (x ∷ rest) _ _ refl refl) ∙ e in
          let size = lexeme_size k class.Mark (mark_length (x ∷ rest)) 1 (rw y at got) in
          absurd (grind (arith, nat_tests, y, size))
      | inr y ↦ sign_from_alone k (x ∷ []) rest (mark_short_alone x rest y) (operator_first (x ∷ rest) (x ∷ []) refl) e
    ]
sign_alone k (x ∷ y ∷ []) rest e = sign_from_alone k (x ∷ y ∷ []) rest (mark_two_alone k x y rest e) (operator_first (x ∷ y ∷ rest) (x ∷ y ∷ []) refl)
    e
sign_alone k (x ∷ y ∷ z ∷ f) rest e =
    sign_from_alone k (x ∷ y ∷ z ∷ f) rest (mark_tests ((x ∷ y ∷ z ∷ f) ++ []) _ refl ∙ sym (mark_tests ((x ∷ y ∷ z ∷ f) ++ rest) _ refl))
    (operator_first ((x ∷ y ∷ z ∷ f) ++ rest) ((x ∷ y ∷ z ∷ f) ++ []) refl) e
