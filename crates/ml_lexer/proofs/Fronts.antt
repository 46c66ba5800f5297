-- A lexeme or a trivia that ends with the front is the same whatever follows, if the first byte behind is alike.
use Rattle.std.proofs.Common.{◌≡◌, ℕ, suc, ◌+◌, ◌<◌, ◌≤◌, ◌⊎◌, inl, inr, List, [], ◌∷◌, ◌++◌, Bool, true, false, not, cond, ◌==◌, ◌&&◌, length}
use Rattle.std.proofs.Common.{get_or, Option, Some, None, refl, ap, sym, ◌∙◌, arith, append-nil}
use Rattle.std.specs.Char.{is_ascii_digit, is_ascii_hexdigit}
use Rattle.std.specs.List.{prefix_len}
use Rattle.std.specs.Str.{byte}
use Rattle.std.proofs.lemmas.Bool.Decides.{nat_tests}
use Rattle.rotor_base.specs.declared.token.Class.{Class}
use Rattle.rotor_base.specs.declared.token.Class.TheVariants as class
use Rattle.ml_lexer.specs.declared.piece.Piece.{Piece}
use Rattle.ml_lexer.specs.declared.piece.Piece.TheVariants as piece
use Rattle.ml_lexer.specs.Bytes.{among, is_at, is_word_start, is_quoted_word_byte}
use Rattle.ml_lexer.specs.Quotes.{is_octal_digit, fit, is, plain_char, short_escape, decimal_escape, hexadecimal_escape, octal_escape, char_length}
use Rattle.ml_lexer.specs.Quotes.{text_length, opens_quoted, quoted_length, quoted_word_length}
use Rattle.ml_lexer.specs.Trivia.{opens_comment, comment_length, attribute_length}
use Rattle.ml_lexer.specs.Pieces.{trivia, ended, marked_word_at, label_at, mark_length, char_or_variable, begins_label, begins_operator, sign_at}
use Rattle.ml_lexer.specs.Pieces.{lexeme_at, piece_at}
use Rattle.ml_lexer.proofs.Local.{Alike, which, le_or_lt, alike_test, and_false, fit_same, byte_inside, run_inside, run_stops, run_exact, word_range}
use Rattle.ml_lexer.proofs.Local.{opens_at, quoted_far, quoted_same, text_far}
use Rattle.ml_lexer.proofs.Nested.{text_length_same, comment_exact, attribute_exact}
use Rattle.ml_lexer.proofs.Words.{alike_stops, word_same, word_alone, word_some}
use Rattle.ml_lexer.proofs.Signs.{marked_same, marked_starts, marked_long, label_same, byte_behind, marked_alone, label_alone, label_long}
use Rattle.ml_lexer.proofs.Marks.{word_is_not, cond_same, mark_tests, sign_same, sign_tests, sign_alone, sign_positive}
use Rattle.ml_lexer.proofs.Digits.{number_same, number_alone, number_some}
use Rattle.ml_lexer.proofs.Apart.{lexeme_tests, lexeme_is_no_trivia}

abbrev choice : Bool → Bool → Bool → Bool → Bool → Option ℕ
choice a b c d e = cond a (Some 3) (cond b (Some 4) (cond c (Some 6) (cond d (Some 6) (cond e (Some 7) None))))

choice_same : (a b c d e a' b' c' d' e' : Bool) (m : ℕ) → (3 ≤ m → a' ≡ a) → (4 ≤ m → b' ≡ b) → (6 ≤ m → c' ≡ c) → (6 ≤ m → d' ≡ d) → (7 ≤ m → e' ≡ e)
    → choice a b c d e ≡ Some m → choice a' b' c' d' e' ≡ Some m
choice_same true b c d e a' b' c' d' e' m f g h i j k = let at : 3 ≡ m = cc in rw (f (omega (arith, at))) k
choice_same false true c d e a' b' c' d' e' m f g h i j k = let at : 4 ≡ m = cc in rw (f (omega (arith, at)), g (omega (arith, at))) k
choice_same false false true d e a' b' c' d' e' m f g h i j k = let at : 6 ≡ m = cc in
    rw (f (omega (arith, at)), g (omega (arith, at)), h (omega (arith, at))) k
choice_same false false false true e a' b' c' d' e' m f g h i j k = let at : 6 ≡ m = cc in
    rw (f (omega (arith, at)), g (omega (arith, at)), h (omega (arith, at)), i (omega (arith, at))) k
choice_same false false false false true a' b' c' d' e' m f g h i j k = let at : 7 ≡ m = cc in
    rw (f (omega (arith, at)), g (omega (arith, at)), h (omega (arith, at)), i (omega (arith, at)), j (omega (arith, at))) k
choice_same false false false false false a' b' c' d' e' m f g h i j k = cc

char_choice : (b : List ℕ) → char_length b ≡ choice (fit plain_char 0 b) (fit short_escape 0 b) (fit decimal_escape 0 b) (fit hexadecimal_escape 0 b)
    (fit octal_escape 0 b)
unfolding char_length
char_choice b = refl

char_inside : (q r r' : List ℕ) (m : ℕ) → char_length (q ++ r) ≡ Some m → m ≤ length q → char_length (q ++ r') ≡ Some m
char_inside q r r' m e h =
    char_choice (q ++ r')
    ∙ choice_same _ _ _ _ _ _ _ _ _ _ m (λ l. fit_same plain_char 0 q r' r (omega (arith, l, h)))
    (λ l. fit_same short_escape 0 q r' r (omega (arith, l, h))) (λ l. fit_same decimal_escape 0 q r' r (omega (arith, l, h)))
    (λ l. fit_same hexadecimal_escape 0 q r' r (omega (arith, l, h))) (λ l. fit_same octal_escape 0 q r' r (omega (arith, l, h)))
    (sym (char_choice (q ++ r)) ∙ e)

no_escape : (tests : List (ℕ → Bool)) (x y : ℕ) (s : List ℕ) → (y == byte "\\") ≡ false → fit (is "'" ∷ is "\\" ∷ tests) 0 (x ∷ y ∷ s) ≡ false
no_escape tests x y s nay = ap (λ v. is "'" x && (v && fit tests 2 (x ∷ y ∷ s))) nay ∙ and_false (is "'" x)

choice_plain : (a b c d e : Bool) → b ≡ false → c ≡ false → d ≡ false → e ≡ false → choice a b c d e ≡ cond a (Some 3) None
choice_plain a b c d e f g h i = rw (f, g, h, i) refl

char_plain : (x y : ℕ) (s : List ℕ) → (y == byte "\\") ≡ false → char_length (x ∷ y ∷ s) ≡ cond (fit plain_char 0 (x ∷ y ∷ s)) (Some 3) None
char_plain x y s nay =
    char_choice (x ∷ y ∷ s)
    ∙ choice_plain _ _ _ _ _ (no_escape (among "\\\"'ntbr " ∷ is "'" ∷ []) x y s nay)
    (no_escape (is_ascii_digit ∷ is_ascii_digit ∷ is_ascii_digit ∷ is "'" ∷ []) x y s nay)
    (no_escape (is "x" ∷ is_ascii_hexdigit ∷ is_ascii_hexdigit ∷ is "'" ∷ []) x y s nay)
    (no_escape (is "o" ∷ is_octal_digit ∷ is_octal_digit ∷ is_octal_digit ∷ is "'" ∷ []) x y s nay)

plain_two : (x y : ℕ) (f rest rest' : List ℕ) → Alike rest rest' → fit plain_char 0 ((x ∷ y ∷ f) ++ rest') ≡ fit plain_char 0 ((x ∷ y ∷ f) ++ rest)
plain_two x y [] rest rest' alike = ap (λ v. is "'" x && (not (among "'\\\n\r" y) && (v && true)))
    (sym (alike_test (λ k. k == byte "'") false (word_is_not (byte "'") refl) alike))
plain_two x y (z ∷ f) rest rest' alike = refl

start_is_not : (k : ℕ) → is_word_start k ≡ false → (c : ℕ) → is_word_start c ≡ true → (c == k) ≡ false
start_is_not k nay c e = elim (which (c == k)) [
  | inl y ↦
      let same : c ≡ k = grind (arith, nat_tests, y) in
      let wrong : true ≡ false = sym e ∙ ap is_word_start same ∙ nay in
      cc
  | inr y ↦ y
]

char_of_word : (x y : ℕ) (f rest rest' : List ℕ) → Alike rest rest' → is_word_start y ≡ true
    → char_length ((x ∷ y ∷ f) ++ rest') ≡ char_length ((x ∷ y ∷ f) ++ rest)
char_of_word x y f rest rest' alike start =
    let nay = start_is_not (byte "\\") refl y start in
    char_plain x y (f ++ rest') nay ∙ ap (λ v. cond v (Some 3) None) (plain_two x y f rest rest' alike) ∙ sym (char_plain x y (f ++ rest) nay)

variable_same : (k : Class) (front rest rest' : List ℕ) → Alike rest rest' → char_length (front ++ rest) ≡ None
    → marked_word_at class.TypeVar (front ++ rest) ≡ piece.Lexeme k (length front)
    → char_or_variable (char_length (front ++ rest')) (front ++ rest') ≡ piece.Lexeme k (length front)
variable_same k [] rest rest' alike none e = let long = marked_long class.TypeVar k rest 0 e in absurd (omega (arith, long))
variable_same k (x ∷ []) rest rest' alike none e = let long = marked_long class.TypeVar k (x ∷ rest) 1 e in absurd (omega (arith, long))
variable_same k (x ∷ y ∷ f) rest rest' alike none e =
    let start = marked_starts class.TypeVar k ((x ∷ y ∷ f) ++ rest) _ e in
    ap (λ o. char_or_variable o ((x ∷ y ∷ f) ++ rest')) (char_of_word x y f rest rest' alike start ∙ none)
    ∙ marked_same class.TypeVar k (x ∷ y ∷ f) rest rest' alike e

size_of_lexeme : (k kind : Class) (n m : ℕ) → ◌≡◌ {A = Piece} (piece.Lexeme kind n) (piece.Lexeme k m) → n ≡ m
size_of_lexeme k kind n m e = cc

quote_with : (k : Class) (o : Option ℕ) (front rest rest' : List ℕ) → Alike rest rest' → char_length (front ++ rest) ≡ o
    → char_or_variable o (front ++ rest) ≡ piece.Lexeme k (length front)
    → char_or_variable (char_length (front ++ rest')) (front ++ rest') ≡ piece.Lexeme k (length front)
quote_with k None front rest rest' alike is_o e = variable_same k front rest rest' alike is_o e
quote_with k (Some n) front rest rest' alike is_o e =
    let at = size_of_lexeme k class.Char n (length front) e in
    ap (λ o. char_or_variable o (front ++ rest')) (char_inside front rest rest' n is_o (omega (arith, at))) ∙ e

quote_same : (k : Class) (front rest rest' : List ℕ) → Alike rest rest'
    → char_or_variable (char_length (front ++ rest)) (front ++ rest) ≡ piece.Lexeme k (length front)
    → char_or_variable (char_length (front ++ rest')) (front ++ rest') ≡ piece.Lexeme k (length front)
quote_same k front rest rest' alike e = quote_with k (char_length (front ++ rest)) front rest rest' alike refl e

ended_same : (kind k : Class) (o o' : Option ℕ) (n : ℕ) → ((m : ℕ) → o ≡ Some m → m ≤ n → o' ≡ Some m) → ended kind o ≡ piece.Lexeme k n
    → ended kind o' ≡ piece.Lexeme k n
ended_same kind k None o' n f e = cc
ended_same kind k (Some m) o' n f e = let at = size_of_lexeme k kind m n e in ap (ended kind) (f m refl (omega (arith, at))) ∙ e

label_tests : (b : List ℕ) (s : Bool) → is_word_start (get_or b 1 0) ≡ s → begins_label b ≡ (among "~?" (get_or b 0 0) && s)
unfolding begins_label
label_tests b s e = rw e refl

pub word_byte_starts : (c : ℕ) → is_quoted_word_byte c ≡ true → is_word_start c ≡ true
word_byte_starts c e = elim (which (is_word_start c)) [
  | inl y ↦ y
  | inr n ↦ let r = word_range c e in absurd (grind (arith, nat_tests, n, r))
]

begins_same : (x : ℕ) (f rest rest' : List ℕ) → Alike rest rest' → begins_label ((x ∷ f) ++ rest') ≡ begins_label ((x ∷ f) ++ rest)
begins_same x [] rest rest' alike = label_tests (x ∷ rest') _ (sym (alike_test is_word_start true word_byte_starts alike))
    ∙ sym (label_tests (x ∷ rest) _ refl)
begins_same x (y ∷ f) rest rest' alike = label_tests ((x ∷ y ∷ f) ++ rest') _ refl ∙ sym (label_tests ((x ∷ y ∷ f) ++ rest) _ refl)

lexeme_same : (k : Class) (x : ℕ) (f rest rest' : List ℕ) → Alike rest rest' → opens_quoted ((x ∷ f) ++ rest') ≡ opens_quoted ((x ∷ f) ++ rest)
    → lexeme_at ((x ∷ f) ++ rest) ≡ piece.Lexeme k (suc (length f)) → lexeme_at ((x ∷ f) ++ rest') ≡ piece.Lexeme k (suc (length f))
lexeme_same k x f rest rest' alike opens e =
    lexeme_tests ((x ∷ f) ++ rest') _ _ opens (begins_same x f rest rest' alike)
    ∙ cond_same (is_word_start x) (word_same k (x ∷ f) rest rest' alike) (
    cond_same (is_ascii_digit x) (number_same k (x ∷ f) rest rest' alike) (
    cond_same (x == byte "\"")
    (ended_same class.Text k (text_length ((x ∷ f) ++ rest)) (text_length ((x ∷ f) ++ rest')) (suc (length f))
    (λ m. text_length_same (x ∷ f) rest rest' m (omega arith))) (
    cond_same (opens_quoted ((x ∷ f) ++ rest))
    (ended_same class.Quoted k (quoted_length ((x ∷ f) ++ rest)) (quoted_length ((x ∷ f) ++ rest')) (suc (length f))
    (quoted_same (x ∷ f) rest rest')) (
    cond_same (x == byte "'") (quote_same k (x ∷ f) rest rest' alike) (
    cond_same (x == byte "`") (marked_same class.Tag k (x ∷ f) rest rest' alike) (
    cond_same (begins_label ((x ∷ f) ++ rest)) (label_same k (x ∷ f) rest rest' alike) (sign_same k (x ∷ f) rest rest' alike)))))))
    (sym (lexeme_tests ((x ∷ f) ++ rest) _ _ refl refl) ∙ e)

inside : (n m : ℕ) → n ≤ m → (n < m) ⊎ (n ≡ m)
inside n m fits = elim (le_or_lt m n) [
  | inl over ↦ inr (omega (arith, over, fits))
  | inr less ↦ inl less
]

-- what opens depends on the run of the word and the byte behind it
pub brace_opens : (s : List ℕ) (n : ℕ) → prefix_len is_quoted_word_byte s ≡ n → opens_quoted (123 ∷ s) ≡ (get_or s n 0 == byte "|")
brace_opens s n e =
    let index : 1 + n ≡ suc n = omega arith in
    opens_at (123 ∷ s) n e ∙ ap (λ i. get_or (123 ∷ s) i 0 == byte "|") index

pub opens_front : (q rest rest' : List ℕ) → Alike rest rest' → prefix_len is_quoted_word_byte (q ++ rest) ≤ length q
    → opens_quoted (123 ∷ (q ++ rest')) ≡ opens_quoted (123 ∷ (q ++ rest))
opens_front q rest rest' alike fits =
    let n = prefix_len is_quoted_word_byte (q ++ rest) in
    elim (inside n (length q) fits) [
      | inl less ↦
          brace_opens (q ++ rest') n (run_inside is_quoted_word_byte q rest rest' less)
          ∙ ap (λ v. v == byte "|") (sym (byte_inside q rest rest' n less))
          ∙ sym (brace_opens (q ++ rest) n refl)
      | inr exact ↦
          let stops = alike_stops is_quoted_word_byte true (λ c h. h) alike (run_stops is_quoted_word_byte q rest exact) in
          let exact' = run_exact is_quoted_word_byte q rest rest' exact stops in
          brace_opens (q ++ rest') (length q) exact'
          ∙ ap (λ v. v == byte "|") (byte_behind q rest')
          ∙ sym (alike_test (λ v. v == byte "|") false (word_is_not (byte "|") refl) alike)
          ∙ ap (λ v. v == byte "|") (sym (byte_behind q rest))
          ∙ sym (brace_opens (q ++ rest) (length q) exact)
    ]

no_brace : (x : ℕ) (s : List ℕ) → (x == byte "{") ≡ false → opens_quoted (x ∷ s) ≡ false
no_brace x s nay = opens_at (x ∷ s) (quoted_word_length (x ∷ s)) refl ∙ ap (λ v. v && is_at "|" (1 + quoted_word_length (x ∷ s)) (x ∷ s)) nay

percent_opens_not : (s : List ℕ) → opens_quoted (123 ∷ 37 ∷ s) ≡ false
unfolding opens_quoted
percent_opens_not s = refl

plain_begins_not : (s : List ℕ) → begins_label (123 ∷ s) ≡ false
unfolding begins_label
plain_begins_not s = refl

brace_no_operator : (s : List ℕ) → begins_operator (123 ∷ s) ≡ false
unfolding begins_operator
brace_no_operator s = refl

brace_mark : (y : ℕ) (s : List ℕ) → (y == byte "%") ≡ false → mark_length (123 ∷ y ∷ s) ≡ 1
brace_mark y s nay = mark_tests (123 ∷ y ∷ s) false refl ∙ ap (λ t. cond t 2 1) nay

-- a lexeme of two bytes or more that begins with `{` and is no Quoted is `{%`
brace_long : (k : Class) (y : ℕ) (s : List ℕ) (m : ℕ) → sign_at (123 ∷ y ∷ s) ≡ piece.Lexeme k (suc (suc m)) → (y == byte "%") ≡ true
brace_long k y s m e = elim (which (y == byte "%")) [
  | inl t ↦ t
  | inr t ↦
      let got = sym (sign_tests (123 ∷ y ∷ s) 1 false (brace_mark y s t) (brace_no_operator (y ∷ s))) ∙ e in
      let size = size_of_lexeme k class.Mark 1 (suc (suc m)) got in
      absurd (omega (arith, size))
]

brace_lexeme : (s : List ℕ) (o : Bool) → opens_quoted (123 ∷ s) ≡ o → lexeme_at (123 ∷ s) ≡ cond o (ended class.Quoted (quoted_length (123 ∷ s)))
    (sign_at (123 ∷ s))
brace_lexeme s o e = lexeme_tests (123 ∷ s) o false e (plain_begins_not s)

quoted_fits : (b : List ℕ) (m : ℕ) → quoted_length b ≡ Some m → quoted_word_length b + 2 ≤ m
unfolding quoted_length
quoted_fits b m e = let far = quoted_far _ _ _ m e in omega (arith, far)

ended_fits : (k : Class) (o : Option ℕ) (low m : ℕ) → ((n : ℕ) → o ≡ Some n → low ≤ n) → ended class.Quoted o ≡ piece.Lexeme k m → low ≤ m
ended_fits k None low m f e = cc
ended_fits k (Some n) low m f e = let at = size_of_lexeme k class.Quoted n m e in let far = f n refl in omega (arith, at, far)

-- a Quoted has two bytes or more
pub quoted_is_long : (k : Class) (rest : List ℕ) (m : ℕ) → lexeme_at (123 ∷ rest) ≡ piece.Lexeme k m → opens_quoted (123 ∷ rest) ≡ true → m < 2 → ⊥
quoted_is_long k rest m e o less =
    let fits = ended_fits k (quoted_length (123 ∷ rest)) _ m (quoted_fits (123 ∷ rest)) (sym (brace_lexeme rest true o) ∙ e) in
    absurd (omega (arith, fits, less))

opens_brace : (k : Class) (f rest rest' : List ℕ) → Alike rest rest' → (f ≡ [] → opens_quoted (123 ∷ rest') ≡ opens_quoted (123 ∷ rest))
    → lexeme_at (123 ∷ (f ++ rest)) ≡ piece.Lexeme k (suc (length f)) → opens_quoted (123 ∷ (f ++ rest')) ≡ opens_quoted (123 ∷ (f ++ rest))
opens_brace k [] rest rest' alike lone e = lone refl
opens_brace k (y ∷ g) rest rest' alike lone e = elim (which (opens_quoted (123 ∷ y ∷ (g ++ rest)))) [
  | inl o ↦
      let fits = ended_fits k (quoted_length (123 ∷ y ∷ (g ++ rest))) _ _ (quoted_fits (123 ∷ y ∷ (g ++ rest)))
      (sym (brace_lexeme (y ∷ (g ++ rest)) true o) ∙ e) in
      opens_front (y ∷ g) rest rest' alike (omega (arith, fits))
  | inr o ↦
      let aye = brace_long k y (g ++ rest) (length g) (sym (brace_lexeme (y ∷ (g ++ rest)) false o) ∙ e) in
      let is_percent : y ≡ 37 = grind (arith, nat_tests, aye) in
      ap (λ v. opens_quoted (123 ∷ v ∷ (g ++ rest'))) is_percent ∙ percent_opens_not (g ++ rest') ∙ sym o
]

opens_kept : (k : Class) (x : ℕ) (f rest rest' : List ℕ) → Alike rest rest'
    → (x ≡ 123 → f ≡ [] → opens_quoted (123 ∷ rest') ≡ opens_quoted (123 ∷ rest)) → lexeme_at ((x ∷ f) ++ rest) ≡ piece.Lexeme k (suc (length f))
    → opens_quoted ((x ∷ f) ++ rest') ≡ opens_quoted ((x ∷ f) ++ rest)
opens_kept k x f rest rest' alike lone e = elim (which (x == byte "{")) [
  | inr nay ↦ no_brace x (f ++ rest') nay ∙ sym (no_brace x (f ++ rest) nay)
  | inl aye ↦
      let is_brace : x ≡ 123 = grind (arith, nat_tests, aye) in
      ap (λ v. opens_quoted (v ∷ (f ++ rest'))) is_brace
      ∙ opens_brace k f rest rest' alike (λ empty. lone is_brace empty) (ap (λ v. lexeme_at (v ∷ (f ++ rest))) (sym is_brace) ∙ e)
      ∙ ap (λ v. opens_quoted (v ∷ (f ++ rest))) (sym is_brace)
]

abbrev is_white : ℕ → Bool
is_white x = among " \t\n\r\u{c}" x

pub piece_tests : (b : List ℕ) (o t : Bool) → opens_comment b ≡ o → (is_at "[" 0 b && is_at "@" 1 b) ≡ t
    → piece_at b ≡ cond (is_white (get_or b 0 0)) (piece.Trivia 1)
    (cond o (trivia (comment_length b)) (cond t (trivia (attribute_length b)) (lexeme_at b)))
unfolding piece_at
piece_tests b o t e f = rw (e, f) refl

pair_same : (i j : ℕ) → is_quoted_word_byte j ≡ false → (x : ℕ) (f rest rest' : List ℕ) → Alike rest rest'
    → (get_or ((x ∷ f) ++ rest') 0 0 == i && get_or ((x ∷ f) ++ rest') 1 0 == j)
    ≡ (get_or ((x ∷ f) ++ rest) 0 0 == i && get_or ((x ∷ f) ++ rest) 1 0 == j)
pair_same i j nay x [] rest rest' alike = ap (λ v. x == i && v) (sym (alike_test (λ v. v == j) false (word_is_not j nay) alike))
pair_same i j nay x (y ∷ f) rest rest' alike = refl

trivia_is_no_lexeme : (o : Option ℕ) (k : Class) (n : ℕ) → trivia o ≡ piece.Lexeme k n → ⊥
trivia_is_no_lexeme None k n e = cc
trivia_is_no_lexeme (Some m) k n e = cc

-- the choice of a lexeme is that of `lexeme_at`
cond_lexeme : (w o t : Bool) (c a : Option ℕ) (p : Piece) (k : Class) (n : ℕ)
    → cond w (piece.Trivia 1) (cond o (trivia c) (cond t (trivia a) p)) ≡ piece.Lexeme k n → p ≡ piece.Lexeme k n
cond_lexeme true o t c a p k n e = cc
cond_lexeme false true t c a p k n e = absurd (trivia_is_no_lexeme c k n e)
cond_lexeme false false true c a p k n e = absurd (trivia_is_no_lexeme a k n e)
cond_lexeme false false false c a p k n e = e

pub lexeme_of_piece : (b : List ℕ) (k : Class) (n : ℕ) → piece_at b ≡ piece.Lexeme k n → lexeme_at b ≡ piece.Lexeme k n
lexeme_of_piece b k n e = cond_lexeme (is_white (get_or b 0 0)) (opens_comment b) (is_at "[" 0 b && is_at "@" 1 b) (comment_length b)
    (attribute_length b) (lexeme_at b) k n (sym (piece_tests b _ _ refl refl) ∙ e)

pub piece_same : (k : Class) (x : ℕ) (f rest rest' : List ℕ) → Alike rest rest'
    → (x ≡ 123 → f ≡ [] → opens_quoted (123 ∷ rest') ≡ opens_quoted (123 ∷ rest)) → piece_at ((x ∷ f) ++ rest) ≡ piece.Lexeme k (suc (length f))
    → piece_at ((x ∷ f) ++ rest') ≡ piece.Lexeme k (suc (length f))
piece_same k x f rest rest' alike lone e =
    let opens = opens_kept k x f rest rest' alike lone (lexeme_of_piece ((x ∷ f) ++ rest) k _ e) in
    piece_tests ((x ∷ f) ++ rest') _ _ (pair_same (byte "(") (byte "*") refl x f rest rest' alike)
    (pair_same (byte "[") (byte "@") refl x f rest rest' alike)
    ∙ cond_same (is_white x) (λ h. h) (
    cond_same (opens_comment ((x ∷ f) ++ rest)) (λ h. absurd (trivia_is_no_lexeme _ _ _ h)) (
    cond_same (is_at "[" 0 ((x ∷ f) ++ rest) && is_at "@" 1 ((x ∷ f) ++ rest)) (λ h. absurd (trivia_is_no_lexeme _ _ _ h))
    (lexeme_same k x f rest rest' alike opens)))
    (sym (piece_tests ((x ∷ f) ++ rest) _ _ refl refl) ∙ e)

trivia_some : (o : Option ℕ) (n : ℕ) → trivia o ≡ piece.Trivia n → o ≡ Some n
trivia_some None n e = cc
trivia_some (Some m) n e = cc

pub trivia_same : (x : ℕ) (f rest rest' : List ℕ) → Alike rest rest' → piece_at ((x ∷ f) ++ rest) ≡ piece.Trivia (suc (length f))
    → piece_at ((x ∷ f) ++ rest') ≡ piece.Trivia (suc (length f))
trivia_same x f rest rest' alike e =
    piece_tests ((x ∷ f) ++ rest') _ _ (pair_same (byte "(") (byte "*") refl x f rest rest' alike)
    (pair_same (byte "[") (byte "@") refl x f rest rest' alike)
    ∙ cond_same (is_white x) (λ h. h) (
    cond_same (opens_comment ((x ∷ f) ++ rest)) (λ h. ap trivia (comment_exact (x ∷ f) rest rest' alike (trivia_some _ _ h))) (
    cond_same (is_at "[" 0 ((x ∷ f) ++ rest) && is_at "@" 1 ((x ∷ f) ++ rest))
    (λ h. ap trivia (attribute_exact (x ∷ f) rest rest' alike (trivia_some _ _ h)))
    (λ h. absurd (lexeme_is_no_trivia ((x ∷ f) ++ rest) (suc (length f)) h))))
    (sym (piece_tests ((x ∷ f) ++ rest) _ _ refl refl) ∙ e)

-- ---- a lexeme that ends with the front is one also if nothing follows

no_third : (x y : ℕ) → fit plain_char 0 (x ∷ y ∷ []) ≡ false
no_third x y = ap (λ v. is "'" x && v) (and_false (not (among "'\\\n\r" y))) ∙ and_false (is "'" x)

char_alone : (x y : ℕ) (f rest : List ℕ) → is_word_start y ≡ true → char_length ((x ∷ y ∷ f) ++ rest) ≡ None → char_length ((x ∷ y ∷ f) ++ []) ≡ None
char_alone x y [] rest start none = char_plain x y [] (start_is_not (byte "\\") refl y start) ∙ ap (λ v. cond v (Some 3) None) (no_third x y)
char_alone x y (z ∷ f) rest start none =
    let nay = start_is_not (byte "\\") refl y start in
    char_plain x y ((z ∷ f) ++ []) nay ∙ sym (char_plain x y ((z ∷ f) ++ rest) nay) ∙ none

variable_alone : (k : Class) (front rest : List ℕ) → char_length (front ++ rest) ≡ None
    → marked_word_at class.TypeVar (front ++ rest) ≡ piece.Lexeme k (length front)
    → char_or_variable (char_length (front ++ [])) (front ++ []) ≡ piece.Lexeme k (length front)
variable_alone k [] rest none e = let long = marked_long class.TypeVar k rest 0 e in absurd (omega (arith, long))
variable_alone k (x ∷ []) rest none e = let long = marked_long class.TypeVar k (x ∷ rest) 1 e in absurd (omega (arith, long))
variable_alone k (x ∷ y ∷ f) rest none e =
    let start = marked_starts class.TypeVar k ((x ∷ y ∷ f) ++ rest) _ e in
    ap (λ o. char_or_variable o ((x ∷ y ∷ f) ++ [])) (char_alone x y f rest start none) ∙ marked_alone class.TypeVar k (x ∷ y ∷ f) rest e

quote_alone : (k : Class) (o : Option ℕ) (front rest : List ℕ) → char_length (front ++ rest) ≡ o
    → char_or_variable o (front ++ rest) ≡ piece.Lexeme k (length front) → char_or_variable (char_length (front ++ [])) (front ++ []) ≡ piece.Lexeme k
    (length front)
quote_alone k None front rest is_o e = variable_alone k front rest is_o e
quote_alone k (Some n) front rest is_o e =
    let at = size_of_lexeme k class.Char n (length front) e in
    ap (λ o. char_or_variable o (front ++ [])) (char_inside front rest [] n is_o (omega (arith, at))) ∙ e

opens_inside : (q rest rest' : List ℕ) → prefix_len is_quoted_word_byte (q ++ rest) < length q
    → opens_quoted (123 ∷ (q ++ rest')) ≡ opens_quoted (123 ∷ (q ++ rest))
opens_inside q rest rest' less =
    let n = prefix_len is_quoted_word_byte (q ++ rest) in
    brace_opens (q ++ rest') n (run_inside is_quoted_word_byte q rest rest' less)
    ∙ ap (λ v. v == byte "|") (sym (byte_inside q rest rest' n less))
    ∙ sym (brace_opens (q ++ rest) n refl)

brace_alone : (k : Class) (f rest : List ℕ) → lexeme_at (123 ∷ (f ++ rest)) ≡ piece.Lexeme k (suc (length f))
    → opens_quoted (123 ∷ (f ++ [])) ≡ opens_quoted (123 ∷ (f ++ rest))
brace_alone k [] rest e = elim (which (opens_quoted (123 ∷ rest))) [
  | inl o ↦ absurd (quoted_is_long k rest 1 e o (omega arith))
  | inr o ↦ brace_opens [] 0 refl ∙ sym o
]
brace_alone k (y ∷ g) rest e = elim (which (opens_quoted (123 ∷ y ∷ (g ++ rest)))) [
  | inl o ↦
      let fits = ended_fits k (quoted_length (123 ∷ y ∷ (g ++ rest))) _ _ (quoted_fits (123 ∷ y ∷ (g ++ rest)))
      (sym (brace_lexeme (y ∷ (g ++ rest)) true o) ∙ e) in
      opens_inside (y ∷ g) rest [] (omega (arith, fits))
  | inr o ↦
      let aye = brace_long k y (g ++ rest) (length g) (sym (brace_lexeme (y ∷ (g ++ rest)) false o) ∙ e) in
      let is_percent : y ≡ 37 = grind (arith, nat_tests, aye) in
      ap (λ v. opens_quoted (123 ∷ v ∷ (g ++ []))) is_percent ∙ percent_opens_not (g ++ []) ∙ sym o
]

opens_alone : (k : Class) (x : ℕ) (f rest : List ℕ) → lexeme_at ((x ∷ f) ++ rest) ≡ piece.Lexeme k (suc (length f))
    → opens_quoted ((x ∷ f) ++ []) ≡ opens_quoted ((x ∷ f) ++ rest)
opens_alone k x f rest e = elim (which (x == byte "{")) [
  | inr nay ↦ no_brace x (f ++ []) nay ∙ sym (no_brace x (f ++ rest) nay)
  | inl aye ↦
      let is_brace : x ≡ 123 = grind (arith, nat_tests, aye) in
      ap (λ v. opens_quoted (v ∷ (f ++ []))) is_brace
      ∙ brace_alone k f rest (ap (λ v. lexeme_at (v ∷ (f ++ rest))) (sym is_brace) ∙ e)
      ∙ ap (λ v. opens_quoted (v ∷ (f ++ rest))) (sym is_brace)
]

last_alone : (k : Class) (x : ℕ) (f rest : List ℕ) → cond (begins_label ((x ∷ f) ++ rest)) (label_at ((x ∷ f) ++ rest)) (sign_at ((x ∷ f) ++ rest))
    ≡ piece.Lexeme k (suc (length f)) → cond (begins_label ((x ∷ f) ++ [])) (label_at ((x ∷ f) ++ [])) (sign_at ((x ∷ f) ++ [])) ≡ piece.Lexeme k
    (suc (length f))
last_alone k x [] rest e =
    let none : begins_label (x ∷ []) ≡ false = label_tests (x ∷ []) false refl ∙ and_false (among "~?" x) in
    elim (which (begins_label (x ∷ rest))) [
      | inl y ↦
          let long = label_long k (x ∷ rest) 1 (ap (λ t. cond t (label_at (x ∷ rest)) (sign_at (x ∷ rest))) (sym y) ∙ e) in
          absurd (omega (arith, long))
      | inr y ↦
          ap (λ t. cond t (label_at (x ∷ [])) (sign_at (x ∷ []))) none
          ∙ sign_alone k (x ∷ []) rest (ap (λ t. cond t (label_at (x ∷ rest)) (sign_at (x ∷ rest))) (sym y) ∙ e)
    ]
last_alone k x (y ∷ f) rest e =
    let same : begins_label ((x ∷ y ∷ f) ++ []) ≡ begins_label ((x ∷ y ∷ f) ++ rest) = label_tests ((x ∷ y ∷ f) ++ []) _ refl
    ∙ sym (label_tests ((x ∷ y ∷ f) ++ rest) _ refl) in
    ap (λ t. cond t (label_at ((x ∷ y ∷ f) ++ [])) (sign_at ((x ∷ y ∷ f) ++ []))) same
    ∙ cond_same (begins_label ((x ∷ y ∷ f) ++ rest)) (label_alone k (x ∷ y ∷ f) rest) (sign_alone k (x ∷ y ∷ f) rest) e

lexeme_alone : (k : Class) (x : ℕ) (f rest : List ℕ) → lexeme_at ((x ∷ f) ++ rest) ≡ piece.Lexeme k (suc (length f))
    → lexeme_at ((x ∷ f) ++ []) ≡ piece.Lexeme k (suc (length f))
lexeme_alone k x f rest e =
    lexeme_tests ((x ∷ f) ++ []) _ _ (opens_alone k x f rest e) refl
    ∙ cond_same (is_word_start x) (word_alone k (x ∷ f) rest) (
    cond_same (is_ascii_digit x) (number_alone k (x ∷ f) rest) (
    cond_same (x == byte "\"")
    (ended_same class.Text k (text_length ((x ∷ f) ++ rest)) (text_length ((x ∷ f) ++ [])) (suc (length f))
    (λ m. text_length_same (x ∷ f) rest [] m (omega arith))) (
    cond_same (opens_quoted ((x ∷ f) ++ rest))
    (ended_same class.Quoted k (quoted_length ((x ∷ f) ++ rest)) (quoted_length ((x ∷ f) ++ [])) (suc (length f)) (quoted_same (x ∷ f) rest [])) (
    cond_same (x == byte "'") (quote_alone k (char_length ((x ∷ f) ++ rest)) (x ∷ f) rest refl) (
    cond_same (x == byte "`") (marked_alone class.Tag k (x ∷ f) rest) (last_alone k x f rest))))))
    (sym (lexeme_tests ((x ∷ f) ++ rest) _ _ refl refl) ∙ e)

-- what is no trivia
no_trivia : (w o t : Bool) (c a : Option ℕ) (p : Piece) (k : Class) (n : ℕ)
    → cond w (piece.Trivia 1) (cond o (trivia c) (cond t (trivia a) p)) ≡ piece.Lexeme k n → (w ≡ false) × (o ≡ false) × (t ≡ false)
no_trivia true o t c a p k n e = cc
no_trivia false true t c a p k n e = absurd (trivia_is_no_lexeme c k n e)
no_trivia false false true c a p k n e = absurd (trivia_is_no_lexeme a k n e)
no_trivia false false false c a p k n e = (refl, refl, refl)

pair_alone : (i j x : ℕ) (f rest : List ℕ) → (0 == j) ≡ false → (get_or ((x ∷ f) ++ rest) 0 0 == i && get_or ((x ∷ f) ++ rest) 1 0 == j) ≡ false
    → (get_or ((x ∷ f) ++ []) 0 0 == i && get_or ((x ∷ f) ++ []) 1 0 == j) ≡ false
pair_alone i j x [] rest nay e = ap (λ v. x == i && v) nay ∙ and_false (x == i)
pair_alone i j x (y ∷ f) rest nay e = e

piece_alone : (k : Class) (x : ℕ) (f rest : List ℕ) → piece_at ((x ∷ f) ++ rest) ≡ piece.Lexeme k (suc (length f))
    → piece_at ((x ∷ f) ++ []) ≡ piece.Lexeme k (suc (length f))
piece_alone k x f rest e =
    let b = (x ∷ f) ++ rest in
    let none = no_trivia (is_white x) (opens_comment b) (is_at "[" 0 b && is_at "@" 1 b) (comment_length b) (attribute_length b) (lexeme_at b) k
    (suc (length f)) (sym (piece_tests b _ _ refl refl) ∙ e) in
    piece_tests ((x ∷ f) ++ []) false false (pair_alone (byte "(") (byte "*") x f rest refl none.1)
    (pair_alone (byte "[") (byte "@") x f rest refl none.2)
    ∙ ap (λ t. cond t (piece.Trivia 1) (lexeme_at ((x ∷ f) ++ []))) none.0
    ∙ lexeme_alone k x f rest (lexeme_of_piece b k _ e)

-- ---- no lexeme is empty

neither : (t : Bool) {a c p : Piece} → (a ≡ p → ⊥) → (c ≡ p → ⊥) → cond t a c ≡ p → ⊥
neither true f g e = f e
neither false f g e = g e

choice_some : (a b c d e : Bool) → choice a b c d e ≡ Some 0 → ⊥
choice_some true b c d e h = cc
choice_some false true c d e h = cc
choice_some false false true d e h = cc
choice_some false false false true e h = cc
choice_some false false false false true h = cc
choice_some false false false false false h = cc

quote_some : (k : Class) (b : List ℕ) (o : Option ℕ) → char_length b ≡ o → char_or_variable o b ≡ piece.Lexeme k 0 → ⊥
quote_some k b None is_o e = let long = marked_long class.TypeVar k b 0 e in omega (arith, long)
quote_some k b (Some n) is_o e =
    let none = size_of_lexeme k class.Char n 0 e in
    choice_some (fit plain_char 0 b) (fit short_escape 0 b) (fit decimal_escape 0 b) (fit hexadecimal_escape 0 b) (fit octal_escape 0 b)
    (sym (char_choice b) ∙ is_o ∙ ap Some none)

ended_some : (kind k : Class) (o : Option ℕ) → (o ≡ Some 0 → ⊥) → ended kind o ≡ piece.Lexeme k 0 → ⊥
ended_some kind k None f e = cc
ended_some kind k (Some n) f e = let none = size_of_lexeme k kind n 0 e in f (ap Some none)

lexeme_some : (k : Class) (b : List ℕ) → lexeme_at b ≡ piece.Lexeme k 0 → ⊥
lexeme_some k b e =
    neither (is_word_start (get_or b 0 0)) (word_some k b) (
    neither (is_ascii_digit (get_or b 0 0)) (number_some k b) (
    neither (is_at "\"" 0 b) (ended_some class.Text k (text_length b) (λ h. let far = text_far 1 false _ 0 h in omega (arith, far))) (
    neither (opens_quoted b) (ended_some class.Quoted k (quoted_length b) (λ h. let far = quoted_fits b 0 h in omega (arith, far))) (
    neither (is_at "'" 0 b) (quote_some k b (char_length b) refl) (
    neither (is_at "`" 0 b) (λ h. let long = marked_long class.Tag k b 0 h in omega (arith, long)) (
    neither (begins_label b) (λ h. let long = label_long k b 0 h in omega (arith, long)) (sign_positive b k)))))))
    (sym (lexeme_tests b _ _ refl refl) ∙ e)

-- a lexeme takes a byte or more
pub takes_some : (k : Class) (front rest : List ℕ) → piece_at (front ++ rest) ≡ piece.Lexeme k (length front) → 0 < length front
takes_some k [] rest e = absurd (lexeme_some k rest (lexeme_of_piece rest k 0 e))
takes_some k (x ∷ f) rest e = omega arith

-- alone it is a lexeme of its class
pub whole_alone : (k : Class) (front rest : List ℕ) → piece_at (front ++ rest) ≡ piece.Lexeme k (length front)
    → piece_at front ≡ piece.Lexeme k (length front)
whole_alone k [] rest e = absurd (lexeme_some k rest (lexeme_of_piece rest k 0 e))
whole_alone k (x ∷ f) rest e = ap piece_at (sym (append-nil (x ∷ f))) ∙ piece_alone k x f rest e
