-- Where a word, a TypeVar, a Tag or a Label of the table begins, what is taken is no shorter.
use Rattle.std.proofs.Common.{◌≡◌, ℕ, zero, suc, ◌+◌, ◌≤◌, inl, inr, List, [], ◌∷◌, ◌++◌, Bool, true, false, cond, ◌==◌, length, drop, take}
use Rattle.std.proofs.Common.{Option, None, refl, ap, sym, subst, ◌∙◌, arith}
use Rattle.std.specs.List.{prefix_len, list_all}
use Rattle.std.specs.Str.{byte}
use Rattle.rotor_base.specs.Name.{is_identifier_byte}
use Rattle.rotor_base.specs.declared.token.Class.{Class}
use Rattle.rotor_base.specs.declared.token.Class.TheVariants as class
use Rattle.ml_lexer.specs.declared.piece.Piece.TheVariants as piece
use Rattle.ml_lexer.specs.Bytes.{among, is_at, is_word_start, word_length}
use Rattle.ml_lexer.specs.Quotes.{char_length, text_length, quoted_length, opens_quoted}
use Rattle.ml_lexer.specs.Pieces.{ended, is_long, word_class, is_keyword_class, marked_word_at, label_at, char_or_variable, begins_label}
use Rattle.ml_lexer.specs.Pieces.{lexeme_at, piece_at}
use Rattle.ml_lexer.proofs.Local.{and_left, and_right}
use Rattle.ml_lexer.proofs.Words.{word_at_length, lexeme_of_cond}
use Rattle.ml_lexer.proofs.Signs.{marked_at_length, label_at_parts, byte_behind}
use Rattle.ml_lexer.proofs.Apart.{lexeme_tests, word_lexeme}
use Rattle.ml_lexer.proofs.Fronts.{lexeme_of_piece, takes_some}
use Rattle.lexeme_laws.specs.Table.{is_word, is_marked_word}
use Rattle.lexeme_laws.proofs.Tests.{among_one, among_two, run_over}

-- a lexeme that is taken has this many bytes or more
abbrev pub Reaches : ℕ → List ℕ → Type 0
Reaches n bytes = (k : Class) (m : ℕ) → piece_at bytes ≡ piece.Lexeme k m → n ≤ m

pub reaches_one : (bytes : List ℕ) → Reaches 1 bytes
reaches_one bytes k zero e = takes_some k [] bytes e
reaches_one bytes k (suc m) e = omega arith

pub word_reaches : (f rest : List ℕ) → is_word f ≡ true → Reaches (length f) (f ++ rest)
word_reaches [] rest h k m e = omega arith
word_reaches (x ∷ f) rest h k m e =
    let start = and_left (is_word_start x) (list_all is_identifier_byte f) h in
    let all = and_right (is_word_start x) (list_all is_identifier_byte f) h in
    let b = (x ∷ f) ++ rest in
    let at = sym (word_at_length b _ refl) ∙ sym (word_lexeme b start) ∙ lexeme_of_piece b k m e in
    let n : word_length b ≡ m = lexeme_of_cond (is_long (word_length b)) (word_class (take (word_length b) b)) k (word_length b) m at in
    let run = run_over is_identifier_byte f rest all in
    omega (arith, n, run)

marked_size : (s t : Bool) (kind k : Class) (n m : ℕ) → cond s (cond t piece.LongName (piece.Lexeme kind n)) piece.Bad ≡ piece.Lexeme k m → n ≡ m
marked_size true true kind k n m e = cc
marked_size true false kind k n m e = cc
marked_size false t kind k n m e = cc

label_size : (s t : Bool) (k kind : Class) (n m : ℕ) → cond s piece.LongName (cond t piece.Bad (piece.Lexeme kind n)) ≡ piece.Lexeme k m → n ≡ m
label_size true t k kind n m e = cc
label_size false true k kind n m e = cc
label_size false false k kind n m e = cc

-- the length of the word behind a mark
marked_length : (y : ℕ) (w rest : List ℕ) → is_word (y ∷ w) ≡ true
    → word_length ((y ∷ w) ++ rest) ≡ 1 + (length w + prefix_len is_identifier_byte rest)
marked_length y w rest h =
    let run = run_over is_identifier_byte w rest (and_right (is_word_start y) (list_all is_identifier_byte w) h) in
    omega (arith, run)

marked_reaches : (kind : Class) (x : ℕ) (w rest : List ℕ) → is_word w ≡ true → (k : Class) (m : ℕ)
    → marked_word_at kind ((x ∷ w) ++ rest) ≡ piece.Lexeme k m → length (x ∷ w) ≤ m
marked_reaches kind x [] rest h k m e = cc
marked_reaches kind x (y ∷ w) rest h k m e =
    let b = (x ∷ y ∷ w) ++ rest in
    let n = marked_size (is_word_start y) (is_long (word_length (drop 1 b))) kind k (1 + word_length (drop 1 b)) m
    (sym (marked_at_length kind b _ refl) ∙ e) in
    let l = marked_length y w rest h in
    omega (arith, n, l)

pub quote_lexeme : (s : List ℕ) → lexeme_at (byte "'" ∷ s) ≡ char_or_variable (char_length (byte "'" ∷ s)) (byte "'" ∷ s)
unfolding lexeme_at opens_quoted
quote_lexeme s = refl

pub tag_lexeme : (s : List ℕ) → lexeme_at (byte "`" ∷ s) ≡ marked_word_at class.Tag (byte "`" ∷ s)
unfolding lexeme_at opens_quoted
tag_lexeme s = refl

pub text_lexeme : (s : List ℕ) → lexeme_at (byte "\"" ∷ s) ≡ ended class.Text (text_length (byte "\"" ∷ s))
unfolding lexeme_at
text_lexeme s = refl

pub quoted_lexeme : (s : List ℕ) → opens_quoted (byte "{" ∷ s) ≡ true → lexeme_at (byte "{" ∷ s) ≡ ended class.Quoted (quoted_length (byte "{" ∷ s))
quoted_lexeme s h = lexeme_tests (byte "{" ∷ s) true _ h refl

tilde_opens : (s : List ℕ) → opens_quoted (byte "~" ∷ s) ≡ false
unfolding opens_quoted
tilde_opens s = refl

question_opens : (s : List ℕ) → opens_quoted (byte "?" ∷ s) ≡ false
unfolding opens_quoted
question_opens s = refl

tilde_label : (y : ℕ) (s : List ℕ) → is_word_start y ≡ true → begins_label (byte "~" ∷ y ∷ s) ≡ true
unfolding begins_label
tilde_label y s h = rw h refl

question_label : (y : ℕ) (s : List ℕ) → is_word_start y ≡ true → begins_label (byte "?" ∷ y ∷ s) ≡ true
unfolding begins_label
question_label y s h = rw h refl

pub label_lexeme : (x y : ℕ) (s : List ℕ) → among "~?" x ≡ true → is_word_start y ≡ true → lexeme_at (x ∷ y ∷ s) ≡ label_at (x ∷ y ∷ s)
label_lexeme x y s h start = elim (among_two (byte "~") (byte "?") x h) [
  | inl e ↦ subst (λ v. lexeme_at (v ∷ y ∷ s) ≡ label_at (v ∷ y ∷ s)) (sym e)
      (lexeme_tests (byte "~" ∷ y ∷ s) false true (tilde_opens (y ∷ s)) (tilde_label y s start))
  | inr e ↦ subst (λ v. lexeme_at (v ∷ y ∷ s) ≡ label_at (v ∷ y ∷ s)) (sym e)
      (lexeme_tests (byte "?" ∷ y ∷ s) false true (question_opens (y ∷ s)) (question_label y s start))
]

pub tag_reaches : (f rest : List ℕ) → is_marked_word "`" f ≡ true → Reaches (length f) (f ++ rest)
tag_reaches [] rest h k m e = omega arith
tag_reaches (x ∷ w) rest h k m e =
    let mark = among_one (byte "`") x (and_left (among "`" x) (is_word w) h) in
    let at : lexeme_at (x ∷ (w ++ rest)) ≡ piece.Lexeme k m = lexeme_of_piece ((x ∷ w) ++ rest) k m e in
    let moved : lexeme_at (byte "`" ∷ (w ++ rest)) ≡ piece.Lexeme k m = ap (λ v. lexeme_at (v ∷ (w ++ rest))) (sym mark) ∙ at in
    marked_reaches class.Tag (byte "`") w rest (and_right (among "`" x) (is_word w) h) k m (sym (tag_lexeme (w ++ rest)) ∙ moved)

pub variable_of : (o : Option ℕ) (b : List ℕ) → o ≡ None → char_or_variable o b ≡ marked_word_at class.TypeVar b
variable_of o b e = ap (λ o. char_or_variable o b) e

pub variable_reaches : (f rest : List ℕ) → is_marked_word "'" f ≡ true → char_length (f ++ rest) ≡ None → Reaches (length f) (f ++ rest)
variable_reaches [] rest h none k m e = omega arith
variable_reaches (x ∷ w) rest h none k m e =
    let mark = among_one (byte "'") x (and_left (among "'" x) (is_word w) h) in
    let at : lexeme_at (x ∷ (w ++ rest)) ≡ piece.Lexeme k m = lexeme_of_piece ((x ∷ w) ++ rest) k m e in
    let moved : lexeme_at (byte "'" ∷ (w ++ rest)) ≡ piece.Lexeme k m = ap (λ v. lexeme_at (v ∷ (w ++ rest))) (sym mark) ∙ at in
    let none' : char_length (byte "'" ∷ (w ++ rest)) ≡ None = ap (λ v. char_length (v ∷ (w ++ rest))) (sym mark) ∙ none in
    marked_reaches class.TypeVar (byte "'") w rest (and_right (among "'" x) (is_word w) h) k m
    (sym (variable_of _ (byte "'" ∷ (w ++ rest)) none') ∙ sym (quote_lexeme (w ++ rest)) ∙ moved)

-- a Label has the bytes of its word and its mark; if a `:` follows, one more
label_reaches_at : (x y : ℕ) (w rest : List ℕ) → among "~?" x ≡ true → is_word (y ∷ w) ≡ true → (k : Class) (m : ℕ)
    → piece_at ((x ∷ y ∷ w) ++ rest) ≡ piece.Lexeme k m
    → 1 + word_length ((y ∷ w) ++ rest) + cond (is_at ":" (1 + word_length ((y ∷ w) ++ rest)) ((x ∷ y ∷ w) ++ rest)) 1 0 ≡ m
label_reaches_at x y w rest mark h k m e =
    let b = (x ∷ y ∷ w) ++ rest in
    let n = word_length ((y ∷ w) ++ rest) in
    let start = and_left (is_word_start y) (list_all is_identifier_byte w) h in
    let at = sym (label_at_parts b n _ _ refl refl refl) ∙ sym (label_lexeme x y (w ++ rest) mark start) ∙ lexeme_of_piece b k m e in
    label_size (is_long n) (is_keyword_class (word_class (take n (drop 1 b)))) k class.Label (1 + n + cond (is_at ":" (1 + n) b) 1 0) m at

pub label_reaches : (f rest : List ℕ) → is_marked_word "~?" f ≡ true → Reaches (length f) (f ++ rest)
label_reaches [] rest h k m e = omega arith
label_reaches (x ∷ []) rest h k m e = let wrong : false ≡ true = and_right (among "~?" x) false h in cc
label_reaches (x ∷ y ∷ w) rest h k m e =
    let word = and_right (among "~?" x) (is_word (y ∷ w)) h in
    let at = label_reaches_at x y w rest (and_left (among "~?" x) (is_word (y ∷ w)) h) word k m e in
    let l = marked_length y w rest word in
    omega (arith, at, l)

colon_behind : (x y : ℕ) (w rest : List ℕ) (n : ℕ) → n ≡ length (x ∷ y ∷ w) → is_at ":" n ((x ∷ y ∷ w) ++ (byte ":" ∷ rest)) ≡ true
colon_behind x y w rest n e = ap (λ i. is_at ":" i ((x ∷ y ∷ w) ++ (byte ":" ∷ rest))) e
    ∙ ap (λ v. v == byte ":") (byte_behind (x ∷ y ∷ w) (byte ":" ∷ rest))

pub colon_reaches : (f rest : List ℕ) → is_marked_word "~?" f ≡ true → Reaches (1 + length f) (f ++ (byte ":" ∷ rest))
colon_reaches [] rest h k m e = reaches_one (byte ":" ∷ rest) k m e
colon_reaches (x ∷ []) rest h k m e = let wrong : false ≡ true = and_right (among "~?" x) false h in cc
colon_reaches (x ∷ y ∷ w) rest h k m e =
    let word = and_right (among "~?" x) (is_word (y ∷ w)) h in
    let l = marked_length y w (byte ":" ∷ rest) word in
    let size : 1 + word_length ((y ∷ w) ++ (byte ":" ∷ rest)) ≡ length (x ∷ y ∷ w) = omega (arith, l) in
    let at = label_reaches_at x y w (byte ":" ∷ rest) (and_left (among "~?" x) (is_word (y ∷ w)) h) word k m e in
    let colon = colon_behind x y w rest _ size in
    let sum = rw colon at at in
    omega (arith, sum, size)
