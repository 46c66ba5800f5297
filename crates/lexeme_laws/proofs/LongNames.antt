-- A LongName has a word of more than 255 bytes, and such a word is a LongName.
use Rattle.std.proofs.Common.{◌≡◌, ℕ, suc, ◌+◌, ◌<◌, inl, inr, List, [], ◌∷◌, ◌++◌, Bool, true, false, cond, ◌==◌, ◌&&◌, length, drop, take}
use Rattle.std.proofs.Common.{get_or, nat_lt, Option, Some, None, refl, ap, sym, ◌∙◌, arith}
use Rattle.std.specs.List.{list_all}
use Rattle.std.specs.Prelude.{codes}
use Rattle.std.specs.Char.{is_ascii_digit}
use Rattle.std.specs.Str.{byte}
use Rattle.std.proofs.lemmas.Bool.Decides.{nat_tests}
use Rattle.std.proofs.lemmas.List.{take-append-drop, length-take-le}
use Rattle.rotor_base.specs.Name.{is_identifier_byte}
use Rattle.rotor_base.specs.declared.token.Class.{Class}
use Rattle.rotor_base.specs.declared.token.Class.TheVariants as class
use Rattle.ml_lexer.specs.declared.piece.Piece.{Piece}
use Rattle.ml_lexer.specs.declared.piece.Piece.TheVariants as piece
use Rattle.ml_lexer.specs.Bytes.{among, is_at, is_word_start, word_length, operator_length}
use Rattle.ml_lexer.specs.Numbers.{base_of, float_part_length, suffix_length, unless_identifier_follows, number_at}
use Rattle.ml_lexer.specs.Quotes.{char_length, text_length, opens_quoted, quoted_length}
use Rattle.ml_lexer.specs.Trivia.{opens_comment, comment_length, attribute_length}
use Rattle.ml_lexer.specs.Pieces.{trivia, ended, is_long, word_class, is_keyword_class, word_at, marked_word_at, label_at, char_or_variable}
use Rattle.ml_lexer.specs.Pieces.{operator_of, begins_label, begins_operator, mark_length, mark_of, sign_at, lexeme_at, piece_at}
use Rattle.ml_lexer.proofs.Local.{which, and_left, and_right}
use Rattle.ml_lexer.proofs.Words.{word_at_length}
use Rattle.ml_lexer.proofs.Signs.{among_none, marked_at_length, label_at_parts, operator_at_length}
use Rattle.ml_lexer.proofs.Marks.{sign_tests}
use Rattle.ml_lexer.proofs.Digits.{number_parts}
use Rattle.ml_lexer.proofs.Apart.{lexeme_tests, word_lexeme}
use Rattle.ml_lexer.proofs.Fronts.{piece_tests}
use Rattle.lexeme_laws.specs.Table.{is_word}
use Rattle.lexeme_laws.specs.Begins.{LongWordBegins, LongNameBegins}
use Rattle.lexeme_laws.specs.Laws.{LongNamesAreLong, LongWordsAreRefused}
use Rattle.lexeme_laws.proofs.Tests.{same_numbers, among_passes, run_over}
use Rattle.lexeme_laws.proofs.NumberSound.{digits_of}
use Rattle.lexeme_laws.proofs.WordSound.{run, word_of, word_is_word, run_fits, label_starts, label_short, label_none}

-- this says LongName only if a long name begins
abbrev Long : List ℕ → Piece → Type 0
Long bytes p = p ≡ piece.LongName → LongNameBegins bytes

cond_long : (bytes : List ℕ) (t : Bool) (p q : Piece) → (t ≡ true → Long bytes p) → (t ≡ false → Long bytes q) → Long bytes (cond t p q)
cond_long bytes true p q f g = f refl
cond_long bytes false p q f g = g refl

-- the word here is long
long_word : (x : ℕ) (s : List ℕ) → is_word_start x ≡ true → is_long (suc (run s)) ≡ true → LongWordBegins (x ∷ s)
long_word x s start long =
    let fits = run_fits s in
    (suc (run s), omega (arith, fits), word_is_word x s start, grind (arith, nat_tests, long))

word_cond : (t : Bool) (kind : Class) (n : ℕ) → cond t piece.LongName (piece.Lexeme kind n) ≡ piece.LongName → t ≡ true
word_cond true kind n e = refl
word_cond false kind n e = cc

word_long : (b : List ℕ) → is_word_start (get_or b 0 0) ≡ true → Long b (word_at b)
word_long [] h e = cc
word_long (x ∷ s) h e =
    let size : word_length (x ∷ s) ≡ suc (run s) = omega arith in
    inl (long_word x s h (word_cond (is_long (suc (run s))) (word_class (take (suc (run s)) (x ∷ s))) (suc (run s))
    (sym (word_at_length (x ∷ s) (suc (run s)) size) ∙ e)))

marked_cond : (s t : Bool) (kind : Class) (n : ℕ) → cond s (cond t piece.LongName (piece.Lexeme kind n)) piece.Bad ≡ piece.LongName
    → (s ≡ true) × (t ≡ true)
marked_cond true true kind n e = (refl, refl)
marked_cond true false kind n e = cc
marked_cond false t kind n e = cc

marked_none : (kind : Class) → marked_word_at kind [] ≡ piece.LongName → ⊥
unfolding marked_word_at
marked_none kind e = cc

marked_alone : (kind : Class) (x : ℕ) → marked_word_at kind (x ∷ []) ≡ piece.LongName → ⊥
unfolding marked_word_at
marked_alone kind x e = cc

marked_long : (kind : Class) (b : List ℕ) → among "~?'`" (get_or b 0 0) ≡ true → Long b (marked_word_at kind b)
marked_long kind [] h e = cc
marked_long kind (x ∷ []) h e = absurd (marked_alone kind x e)
marked_long kind (x ∷ y ∷ s) h e =
    let size : word_length (y ∷ s) ≡ suc (run s) = omega arith in
    let parts = marked_cond (is_word_start y) (is_long (suc (run s))) kind (1 + suc (run s))
    (sym (marked_at_length kind (x ∷ y ∷ s) (suc (run s)) size) ∙ e) in
    inr (h, long_word y s parts.0 parts.1)

mark_is : (k : ℕ) (b : List ℕ) → among "~?'`" k ≡ true → (get_or b 0 0 == k) ≡ true → among "~?'`" (get_or b 0 0) ≡ true
mark_is k b h e = ap (among "~?'`") (same_numbers (get_or b 0 0) k e) ∙ h

label_cond : (s t : Bool) (n : ℕ) → cond s piece.LongName (cond t piece.Bad (piece.Lexeme class.Label n)) ≡ piece.LongName → s ≡ true
label_cond true t n e = refl
label_cond false true n e = cc
label_cond false false n e = cc

label_long : (b : List ℕ) → begins_label b ≡ true → Long b (label_at b)
label_long [] h e = absurd (label_none h)
label_long (x ∷ []) h e = absurd (label_short x h)
label_long (x ∷ y ∷ s) h e =
    let starts = label_starts x y s h in
    let size : word_length (y ∷ s) ≡ suc (run s) = omega arith in
    let long = label_cond (is_long (suc (run s))) (is_keyword_class (word_class (word_of y s))) _
    (sym (label_at_parts (x ∷ y ∷ s) (suc (run s)) (word_of y s) _ size refl refl) ∙ e) in
    inr (among_passes (among "~?'`") (codes "~?") x refl starts.0, long_word y s starts.1 long)

ended_never : (kind : Class) (o : Option ℕ) → ended kind o ≡ piece.LongName → ⊥
ended_never kind None e = cc
ended_never kind (Some n) e = cc

quote_long : (b : List ℕ) (o : Option ℕ) → is_at "'" 0 b ≡ true → Long b (char_or_variable o b)
quote_long b None h e = marked_long class.TypeVar b (mark_is (byte "'") b refl h) e
quote_long b (Some n) h e = cc

follows_never : (t : Bool) (kind : Class) (n : ℕ) → cond t piece.Bad (piece.Lexeme kind n) ≡ piece.LongName → ⊥
follows_never true kind n e = cc
follows_never false kind n e = cc

number_cond : (t : Bool) (i j : ℕ) (b : List ℕ)
    → cond t (unless_identifier_follows class.Float i b) (unless_identifier_follows class.Int j b) ≡ piece.LongName → ⊥
number_cond true i j b e = follows_never (is_identifier_byte (get_or b i 0)) class.Float i e
number_cond false i j b e = follows_never (is_identifier_byte (get_or b j 0)) class.Int j e

number_never : (b : List ℕ) → number_at b ≡ piece.LongName → ⊥
number_never b e =
    let n = digits_of (base_of b) b in
    let more = float_part_length (base_of b) (drop n b) in
    number_cond (nat_lt 0 more) (n + more) (n + suffix_length (drop n b)) b (sym (number_parts b (base_of b) n more refl refl refl) ∙ e)

sign_cond : (t u v : Bool) (k : Class) (n i j : ℕ)
    → cond t (piece.Lexeme class.Mark n) (cond u (piece.Lexeme k i) (cond v (piece.Lexeme class.Mark j) piece.Bad)) ≡ piece.LongName → ⊥
sign_cond true u v k n i j e = cc
sign_cond false true v k n i j e = cc
sign_cond false false true k n i j e = cc
sign_cond false false false k n i j e = cc

sign_never : (b : List ℕ) → sign_at b ≡ piece.LongName → ⊥
sign_never b e =
    let n = mark_length b in
    let op = ap (λ p. cond (nat_lt 1 n) (piece.Lexeme class.Mark n) (cond (begins_operator b) p (mark_of n))) (sym (operator_at_length b _ refl)) in
    sign_cond (nat_lt 1 n) (begins_operator b) (nat_lt 0 n) (operator_of (take (1 + operator_length (drop 1 b)) b)) n
    (1 + operator_length (drop 1 b)) n (op ∙ sym (sign_tests b _ _ refl refl) ∙ e)

chain_long : (b : List ℕ)
    → Long b (cond (is_word_start (get_or b 0 0)) (word_at b)
    (cond (is_ascii_digit (get_or b 0 0)) (number_at b)
    (cond (is_at "\"" 0 b) (ended class.Text (text_length b))
    (cond (opens_quoted b) (ended class.Quoted (quoted_length b))
    (cond (is_at "'" 0 b) (char_or_variable (char_length b) b)
    (cond (is_at "`" 0 b) (marked_word_at class.Tag b) (cond (begins_label b) (label_at b) (sign_at b))))))))
chain_long b =
    cond_long b (is_word_start (get_or b 0 0)) (word_at b) _ (word_long b) (λ _.
    cond_long b (is_ascii_digit (get_or b 0 0)) (number_at b) _ (λ _ e. absurd (number_never b e)) (λ _.
    cond_long b (is_at "\"" 0 b) (ended class.Text (text_length b)) _ (λ _ e. absurd (ended_never class.Text (text_length b) e)) (λ _.
    cond_long b (opens_quoted b) (ended class.Quoted (quoted_length b)) _ (λ _ e. absurd (ended_never class.Quoted (quoted_length b) e)) (λ _.
    cond_long b (is_at "'" 0 b) (char_or_variable (char_length b) b) _ (quote_long b (char_length b)) (λ _.
    cond_long b (is_at "`" 0 b) (marked_word_at class.Tag b) _ (λ h. marked_long class.Tag b (mark_is (byte "`") b refl h)) (λ _.
    cond_long b (begins_label b) (label_at b) (sign_at b) (label_long b) (λ _ e. absurd (sign_never b e))))))))

trivia_never : (o : Option ℕ) → trivia o ≡ piece.LongName → ⊥
trivia_never None e = cc
trivia_never (Some n) e = cc

piece_cond : (w o t : Bool) (c a : Option ℕ) (p : Piece) → cond w (piece.Trivia 1) (cond o (trivia c) (cond t (trivia a) p)) ≡ piece.LongName
    → p ≡ piece.LongName
piece_cond true o t c a p e = cc
piece_cond false true t c a p e = absurd (trivia_never c e)
piece_cond false false true c a p e = absurd (trivia_never a e)
piece_cond false false false c a p e = e

pub long_names_are_long : LongNamesAreLong
long_names_are_long bytes e =
    let at = piece_cond (among " \t\n\r\u{c}" (get_or bytes 0 0)) (opens_comment bytes) (is_at "[" 0 bytes && is_at "@" 1 bytes)
    (comment_length bytes) (attribute_length bytes) (lexeme_at bytes) (sym (piece_tests bytes _ _ refl refl) ∙ e) in
    chain_long bytes (sym (lexeme_tests bytes _ _ refl refl) ∙ at)

-- ---- long words

start_is_dark : (x : ℕ) → is_word_start x ≡ true → among " \t\n\r\u{c}" x ≡ false
start_is_dark x h = among_none is_word_start (codes " \t\n\r\u{c}") x refl h

start_is_not : (k x : ℕ) → is_word_start k ≡ false → is_word_start x ≡ true → (x == k) ≡ false
start_is_not k x nay h = elim (which (x == k)) [
  | inl y ↦ let wrong : true ≡ false = sym h ∙ ap is_word_start (same_numbers x k y) ∙ nay in cc
  | inr n ↦ n
]

word_piece : (x : ℕ) (s : List ℕ) → is_word_start x ≡ true → piece_at (x ∷ s) ≡ word_at (x ∷ s)
word_piece x s h =
    piece_tests (x ∷ s) false false (ap (λ v. v && (get_or s 0 0 == byte "*")) (start_is_not (byte "(") x refl h))
    (ap (λ v. v && (get_or s 0 0 == byte "@")) (start_is_not (byte "[") x refl h))
    ∙ ap (λ v. cond v (piece.Trivia 1) (lexeme_at (x ∷ s))) (start_is_dark x h)
    ∙ word_lexeme (x ∷ s) h

pub above : (n : ℕ) → 255 < n → is_long n ≡ true
above n h = grind (arith, nat_tests, h)

long_front : (f rest : List ℕ) → is_word f ≡ true → 255 < length f → piece_at (f ++ rest) ≡ piece.LongName
long_front [] rest h long = cc
long_front (x ∷ f) rest h long =
    let start = and_left (is_word_start x) (list_all is_identifier_byte f) h in
    let b = (x ∷ f) ++ rest in
    let over = run_over is_identifier_byte f rest (and_right (is_word_start x) (list_all is_identifier_byte f) h) in
    let is : is_long (word_length b) ≡ true = above (word_length b) (omega (arith, over, long)) in
    word_piece x (f ++ rest) start ∙ word_at_length b _ refl
    ∙ ap (λ t. cond t piece.LongName (piece.Lexeme (word_class (take (word_length b) b)) (word_length b))) is

pub long_words_are_refused : LongWordsAreRefused
long_words_are_refused bytes long =
    let n = long.0 in
    let size = length-take-le n bytes long.1 in
    let far = long.3 in
    ap piece_at (sym (take-append-drop n bytes)) ∙ long_front (take n bytes) (drop n bytes) long.2 (omega (arith, size, far))
