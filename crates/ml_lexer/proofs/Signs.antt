-- A marked word, a label, an operator or a mark that ends with the front is the same whatever follows, if the first
-- byte behind is alike.
use Rattle.std.proofs.Common.{◌≡◌, ℕ, suc, ◌+◌, ◌<◌, ◌≤◌, inl, inr, List, [], ◌∷◌, ◌++◌, Bool, true, false, not, cond, ◌==◌, length, take, drop}
use Rattle.std.proofs.Common.{get_or, refl, ap, sym, ◌∙◌, arith}
use Rattle.std.specs.List.{prefix_len, list_all, list_any}
use Rattle.std.specs.Prelude.{codes}
use Rattle.std.specs.Str.{byte}
use Rattle.std.proofs.lemmas.List.{take-append-le}
use Rattle.std.proofs.lemmas.Bool.Decides.{nat_tests}
use Rattle.rotor_base.specs.Name.{is_identifier_byte}
use Rattle.rotor_base.specs.declared.token.Class.{Class}
use Rattle.rotor_base.specs.declared.token.Class.TheVariants as class
use Rattle.ml_lexer.specs.declared.piece.Piece.{Piece}
use Rattle.ml_lexer.specs.declared.piece.Piece.TheVariants as piece
use Rattle.ml_lexer.specs.Bytes.{is_at, is_word_start, is_operator_byte, is_quoted_word_byte, word_length, operator_length}
use Rattle.ml_lexer.specs.Pieces.{is_long, word_class, marked_word_at, is_keyword_class, label_at, operator_of, operator_at}
use Rattle.ml_lexer.proofs.Local.{Alike, which, alike_test, and_left, and_right, byte_inside, word_range, run_inside, run_stops, run_exact}
use Rattle.ml_lexer.proofs.Words.{alike_stops, word_byte_is_identifier, take_front}

-- a byte that passes a test is none of those that do not
pub among_none : (p : ℕ → Bool) (l : List ℕ) (c : ℕ) → list_all (λ x. not (p x)) l ≡ true → p c ≡ true → list_any (λ x. x == c) l ≡ false
among_none p [] c f e = refl
among_none p (x ∷ l) c f e = elim (which (x == c)) [
  | inl y ↦
      let same : x ≡ c = grind (arith, nat_tests, y) in
      let nay : not (p x) ≡ true = and_left _ _ f in
      let aye : p x ≡ true = ap p same ∙ e in
      let wrong : false ≡ true = rw aye at nay in
      cc
  | inr y ↦ rw y (among_none p l c (and_right _ _ f) e)
]

-- the run of a word that ends with the front
pub word_run : (x : ℕ) (f rest rest' : List ℕ) → Alike rest rest' → word_length ((x ∷ f) ++ rest) ≡ suc (length f)
    → word_length ((x ∷ f) ++ rest') ≡ suc (length f)
word_run x f rest rest' alike n =
    let run : prefix_len is_identifier_byte (f ++ rest) ≡ length f = omega (arith, n) in
    let stops = alike_stops is_identifier_byte true word_byte_is_identifier alike (run_stops is_identifier_byte f rest run) in
    let run' = run_exact is_identifier_byte f rest rest' run stops in
    omega (arith, run')

pub marked_at_length : (kind : Class) (b : List ℕ) (n : ℕ) → word_length (drop 1 b) ≡ n → marked_word_at kind b ≡ cond (is_word_start (get_or b 1 0))
    (cond (is_long n) piece.LongName (piece.Lexeme kind (1 + n))) piece.Bad
unfolding marked_word_at
marked_at_length kind b n e = rw e refl

marked_of_cond : (s t : Bool) (kind k : Class) (n m : ℕ) → cond s (cond t piece.LongName (piece.Lexeme kind n)) piece.Bad ≡ piece.Lexeme k m → n ≡ m
marked_of_cond true true kind k n m e = cc
marked_of_cond true false kind k n m e = cc
marked_of_cond false t kind k n m e = cc

pub marked_same : (kind k : Class) (front rest rest' : List ℕ) → Alike rest rest'
    → marked_word_at kind (front ++ rest) ≡ piece.Lexeme k (length front) → marked_word_at kind (front ++ rest') ≡ piece.Lexeme k (length front)
marked_same kind k [] rest rest' alike e = let n = marked_of_cond _ _ _ _ _ _ (sym (marked_at_length kind rest _ refl) ∙ e) in
    absurd (omega (arith, n))
marked_same kind k (x ∷ []) rest rest' alike e = let n = marked_of_cond _ _ _ _ _ _ (sym (marked_at_length kind (x ∷ rest) _ refl) ∙ e) in
    absurd (omega (arith, n))
marked_same kind k (x ∷ y ∷ f) rest rest' alike e =
    let n = marked_of_cond _ _ _ _ _ _ (sym (marked_at_length kind (x ∷ y ∷ (f ++ rest)) _ refl) ∙ e) in
    let now : word_length ((y ∷ f) ++ rest) ≡ suc (length f) = omega (arith, n) in
    let later = word_run y f rest rest' alike now in
    marked_at_length kind (x ∷ y ∷ (f ++ rest')) (suc (length f)) later
    ∙ sym (marked_at_length kind (x ∷ y ∷ (f ++ rest)) (suc (length f)) now)
    ∙ e

-- a marked word that begins begins with a word
pub marked_starts : (kind k : Class) (b : List ℕ) (m : ℕ) → marked_word_at kind b ≡ piece.Lexeme k m → is_word_start (get_or b 1 0) ≡ true
marked_starts kind k b m e = elim (which (is_word_start (get_or b 1 0))) [
  | inl y ↦ y
  | inr y ↦ let got = sym (marked_at_length kind b _ refl) ∙ e in let wrong = rw y at got in cc
]

-- a marked word has two bytes or more
pub marked_long : (kind k : Class) (b : List ℕ) (m : ℕ) → marked_word_at kind b ≡ piece.Lexeme k m → 2 ≤ m
marked_long kind k b m e = let n = marked_of_cond _ _ _ _ _ _ (sym (marked_at_length kind b _ refl) ∙ e) in omega (arith, n)

pub label_at_parts : (b : List ℕ) (n : ℕ) (w : List ℕ) (colon : Bool) → word_length (drop 1 b) ≡ n → take n (drop 1 b) ≡ w
    → is_at ":" (1 + n) b ≡ colon
    → label_at b ≡ cond (is_long n) piece.LongName
    (cond (is_keyword_class (word_class w)) piece.Bad (piece.Lexeme class.Label (1 + n + cond colon 1 0)))
unfolding label_at
label_at_parts b n w colon e f g = rw (e, f, g) refl

label_of_cond : (s t : Bool) (k kind : Class) (n m : ℕ) → cond s piece.LongName (cond t piece.Bad (piece.Lexeme kind n)) ≡ piece.Lexeme k m → n ≡ m
label_of_cond true t k kind n m e = cc
label_of_cond false true k kind n m e = cc
label_of_cond false false k kind n m e = cc

pub byte_behind : (q r : List ℕ) → get_or (q ++ r) (length q) 0 ≡ get_or r 0 0
byte_behind [] r = refl
byte_behind (x ∷ q) r = byte_behind q r

no_colon : (c : ℕ) → is_quoted_word_byte c ≡ true → (c == byte ":") ≡ false
no_colon c e = let r = word_range c e in grind (arith, nat_tests, r)

pub label_same : (k : Class) (front rest rest' : List ℕ) → Alike rest rest' → label_at (front ++ rest) ≡ piece.Lexeme k (length front)
    → label_at (front ++ rest') ≡ piece.Lexeme k (length front)
label_same k [] rest rest' alike e = let n = label_of_cond _ _ _ _ _ _ (sym (label_at_parts rest _ _ _ refl refl refl) ∙ e) in
    absurd (omega (arith, n))
label_same k (x ∷ []) rest rest' alike e = let n = label_of_cond _ _ _ _ _ _ (sym (label_at_parts (x ∷ rest) _ _ _ refl refl refl) ∙ e) in
    absurd (omega (arith, n))
label_same k (x ∷ y ∷ f) rest rest' alike e =
    let b = (x ∷ y ∷ f) ++ rest in
    let n = word_length ((y ∷ f) ++ rest) in
    elim (which (is_at ":" (1 + n) b)) [
      | inl colon ↦
          let at = label_of_cond _ _ _ _ _ _ (sym (label_at_parts b n _ true refl refl colon) ∙ e) in
          let shorter : prefix_len is_identifier_byte (f ++ rest) < length f = omega (arith, at) in
          let run = run_inside is_identifier_byte f rest rest' shorter in
          let later : word_length ((y ∷ f) ++ rest') ≡ n = omega (arith, run) in
          let fits : n ≤ length (y ∷ f) = omega (arith, at) in
          let word = take-append-le n (y ∷ f) rest' fits ∙ sym (take-append-le n (y ∷ f) rest fits) in
          let colon' = ap (λ v. v == byte ":") (sym (byte_inside (x ∷ y ∷ f) rest rest' (1 + n) (omega (arith, at)))) ∙ colon in
          label_at_parts ((x ∷ y ∷ f) ++ rest') n _ true later word colon' ∙ sym (label_at_parts b n _ true refl refl colon) ∙ e
      | inr colon ↦
          let at = label_of_cond _ _ _ _ _ _ (sym (label_at_parts b n _ false refl refl colon) ∙ e) in
          let exact : n ≡ suc (length f) = omega (arith, at) in
          let later = word_run y f rest rest' alike exact in
          let word' = take_front (y ∷ f) rest' in
          let same = byte_behind (x ∷ y ∷ f) rest in
          let same' = byte_behind (x ∷ y ∷ f) rest' in
          let index : 1 + n ≡ suc (suc (length f)) = omega (arith, exact) in
          let here : (get_or rest 0 0 == byte ":") ≡ false = ap (λ v. v == byte ":") (sym same) ∙ ap (λ i. get_or b i 0 == byte ":") (sym index)
          ∙ colon in
          let there : is_at ":" (suc (suc (length f))) ((x ∷ y ∷ f) ++ rest') ≡ false =
          ap (λ v. v == byte ":") same' ∙ sym (alike_test (λ v. v == byte ":") false no_colon alike) ∙ here in
          let now : is_at ":" (suc (suc (length f))) b ≡ false = ap (λ v. v == byte ":") same ∙ here in
          let far : suc (suc (length f)) ≡ 1 + suc (length f) = omega arith in
          let there_far = ap (λ i. is_at ":" i ((x ∷ y ∷ f) ++ rest')) (sym far) ∙ there in
          let now_far = ap (λ i. is_at ":" i b) (sym far) ∙ now in
          label_at_parts ((x ∷ y ∷ f) ++ rest') (suc (length f)) (y ∷ f) false later word' there_far
          ∙ sym (label_at_parts b (suc (length f)) (y ∷ f) false exact (take_front (y ∷ f) rest) now_far)
          ∙ e
    ]

pub operator_at_length : (b : List ℕ) (n : ℕ) → 1 + operator_length (drop 1 b) ≡ n → operator_at b ≡ piece.Lexeme (operator_of (take n b)) n
unfolding operator_at
operator_at_length b n e = rw e refl

no_operator : (c : ℕ) → is_quoted_word_byte c ≡ true → is_operator_byte c ≡ false
no_operator c e = among_none is_quoted_word_byte (codes "!$%&*+-./:<=>?@^|~") c refl e

lexeme_lengths : (k kind : Class) (n m : ℕ) → ◌≡◌ {A = Piece} (piece.Lexeme kind n) (piece.Lexeme k m) → n ≡ m
lexeme_lengths k kind n m e = cc

pub operator_same : (k : Class) (front rest rest' : List ℕ) → Alike rest rest' → operator_at (front ++ rest) ≡ piece.Lexeme k (length front)
    → operator_at (front ++ rest') ≡ piece.Lexeme k (length front)
operator_same k [] rest rest' alike e = let n = lexeme_lengths _ _ _ _ (sym (operator_at_length rest _ refl) ∙ e) in absurd (omega (arith, n))
operator_same k (x ∷ f) rest rest' alike e =
    let n = lexeme_lengths _ _ _ _ (sym (operator_at_length (x ∷ (f ++ rest)) _ refl) ∙ e) in
    let run : prefix_len is_operator_byte (f ++ rest) ≡ length f = omega (arith, n) in
    let stops = alike_stops is_operator_byte false no_operator alike (run_stops is_operator_byte f rest run) in
    let run' = run_exact is_operator_byte f rest rest' run stops in
    let now : 1 + operator_length (f ++ rest) ≡ suc (length f) = omega (arith, run) in
    let later : 1 + operator_length (f ++ rest') ≡ suc (length f) = omega (arith, run') in
    operator_at_length ((x ∷ f) ++ rest') (suc (length f)) later
    ∙ ap (λ w. piece.Lexeme (operator_of w) (suc (length f))) (take_front (x ∷ f) rest' ∙ sym (take_front (x ∷ f) rest))
    ∙ sym (operator_at_length ((x ∷ f) ++ rest) (suc (length f)) now)
    ∙ e

-- what ends with the front, if nothing follows
run_alone : (x : ℕ) (f rest : List ℕ) → word_length ((x ∷ f) ++ rest) ≡ suc (length f) → word_length ((x ∷ f) ++ []) ≡ suc (length f)
run_alone x f rest n =
    let run : prefix_len is_identifier_byte (f ++ rest) ≡ length f = omega (arith, n) in
    let run' = run_exact is_identifier_byte f rest [] run refl in
    omega (arith, run')

pub marked_alone : (kind k : Class) (front rest : List ℕ) → marked_word_at kind (front ++ rest) ≡ piece.Lexeme k (length front)
    → marked_word_at kind (front ++ []) ≡ piece.Lexeme k (length front)
marked_alone kind k [] rest e = let n = marked_of_cond _ _ _ _ _ _ (sym (marked_at_length kind rest _ refl) ∙ e) in absurd (omega (arith, n))
marked_alone kind k (x ∷ []) rest e = let n = marked_of_cond _ _ _ _ _ _ (sym (marked_at_length kind (x ∷ rest) _ refl) ∙ e) in
    absurd (omega (arith, n))
marked_alone kind k (x ∷ y ∷ f) rest e =
    let n = marked_of_cond _ _ _ _ _ _ (sym (marked_at_length kind (x ∷ y ∷ (f ++ rest)) _ refl) ∙ e) in
    let now : word_length ((y ∷ f) ++ rest) ≡ suc (length f) = omega (arith, n) in
    let later = run_alone y f rest now in
    marked_at_length kind (x ∷ y ∷ (f ++ [])) (suc (length f)) later
    ∙ sym (marked_at_length kind (x ∷ y ∷ (f ++ rest)) (suc (length f)) now)
    ∙ e

-- a label has two bytes or more
pub label_long : (k : Class) (b : List ℕ) (m : ℕ) → label_at b ≡ piece.Lexeme k m → 2 ≤ m
label_long k b m e = let n = label_of_cond _ _ _ _ _ _ (sym (label_at_parts b _ _ _ refl refl refl) ∙ e) in omega (arith, n)

pub label_alone : (k : Class) (front rest : List ℕ) → label_at (front ++ rest) ≡ piece.Lexeme k (length front)
    → label_at (front ++ []) ≡ piece.Lexeme k (length front)
label_alone k [] rest e = let n = label_long k rest 0 e in absurd (omega (arith, n))
label_alone k (x ∷ []) rest e = let n = label_long k (x ∷ rest) 1 e in absurd (omega (arith, n))
label_alone k (x ∷ y ∷ f) rest e =
    let b = (x ∷ y ∷ f) ++ rest in
    let n = word_length ((y ∷ f) ++ rest) in
    elim (which (is_at ":" (1 + n) b)) [
      | inl colon ↦
          let at = label_of_cond _ _ _ _ _ _ (sym (label_at_parts b n _ true refl refl colon) ∙ e) in
          let shorter : prefix_len is_identifier_byte (f ++ rest) < length f = omega (arith, at) in
          let run = run_inside is_identifier_byte f rest [] shorter in
          let later : word_length ((y ∷ f) ++ []) ≡ n = omega (arith, run) in
          let fits : n ≤ length (y ∷ f) = omega (arith, at) in
          let word = take-append-le n (y ∷ f) [] fits ∙ sym (take-append-le n (y ∷ f) rest fits) in
          let colon' = ap (λ v. v == byte ":") (sym (byte_inside (x ∷ y ∷ f) rest [] (1 + n) (omega (arith, at)))) ∙ colon in
          label_at_parts ((x ∷ y ∷ f) ++ []) n _ true later word colon' ∙ sym (label_at_parts b n _ true refl refl colon) ∙ e
      | inr colon ↦
          let at = label_of_cond _ _ _ _ _ _ (sym (label_at_parts b n _ false refl refl colon) ∙ e) in
          let exact : n ≡ suc (length f) = omega (arith, at) in
          let later = run_alone y f rest exact in
          let word' = take_front (y ∷ f) [] in
          let far : suc (suc (length f)) ≡ 1 + suc (length f) = omega arith in
          let there_far : is_at ":" (1 + suc (length f)) ((x ∷ y ∷ f) ++ []) ≡ false = ap (λ i. is_at ":" i ((x ∷ y ∷ f) ++ [])) (sym far)
          ∙ ap (λ v. v == byte ":") (byte_behind (x ∷ y ∷ f) []) in
          let now_far : is_at ":" (1 + suc (length f)) b ≡ false = ap (λ v. is_at ":" (1 + v) b) (sym exact) ∙ colon in
          label_at_parts ((x ∷ y ∷ f) ++ []) (suc (length f)) (y ∷ f) false later word' there_far
          ∙ sym (label_at_parts b (suc (length f)) (y ∷ f) false exact (take_front (y ∷ f) rest) now_far)
          ∙ e
    ]

pub operator_alone : (k : Class) (front rest : List ℕ) → operator_at (front ++ rest) ≡ piece.Lexeme k (length front)
    → operator_at (front ++ []) ≡ piece.Lexeme k (length front)
operator_alone k [] rest e = let n = lexeme_lengths _ _ _ _ (sym (operator_at_length rest _ refl) ∙ e) in absurd (omega (arith, n))
operator_alone k (x ∷ f) rest e =
    let n = lexeme_lengths _ _ _ _ (sym (operator_at_length (x ∷ (f ++ rest)) _ refl) ∙ e) in
    let run : prefix_len is_operator_byte (f ++ rest) ≡ length f = omega (arith, n) in
    let run' = run_exact is_operator_byte f rest [] run refl in
    let now : 1 + operator_length (f ++ rest) ≡ suc (length f) = omega (arith, run) in
    let later : 1 + operator_length (f ++ []) ≡ suc (length f) = omega (arith, run') in
    operator_at_length ((x ∷ f) ++ []) (suc (length f)) later
    ∙ ap (λ w. piece.Lexeme (operator_of w) (suc (length f))) (take_front (x ∷ f) [] ∙ sym (take_front (x ∷ f) rest))
    ∙ sym (operator_at_length ((x ∷ f) ++ rest) (suc (length f)) now)
    ∙ e
