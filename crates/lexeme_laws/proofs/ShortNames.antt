-- A TypeVar, a Tag or a Label that is taken has no word of more than 255 bytes.
use Rattle.std.proofs.Common.{◌≡◌, ℕ, ◌+◌, ◌<◌, List, [], ◌∷◌, ◌++◌, Bool, true, false, cond, length, drop, take, get_or}
use Rattle.std.proofs.Common.{nat_lt, Option, Some, None, refl, ap, sym, subst, ◌∙◌, arith}
use Rattle.std.specs.List.{list_all}
use Rattle.std.specs.Char.{is_ascii_digit, is_ascii_uppercase}
use Rattle.std.proofs.lemmas.List.{take-append-drop, length-take-le}
use Rattle.rotor_base.specs.Name.{is_identifier_byte, is_value_name}
use Rattle.rotor_base.specs.declared.token.Class.{Class}
use Rattle.rotor_base.specs.declared.token.Class.TheVariants as class
use Rattle.ml_lexer.specs.declared.piece.Piece.{Piece}
use Rattle.ml_lexer.specs.declared.piece.Piece.TheVariants as piece
use Rattle.ml_lexer.specs.Bytes.{among, is_at, is_word_start, word_length, operator_length}
use Rattle.ml_lexer.specs.Numbers.{base_of, float_part_length, suffix_length, number_at}
use Rattle.ml_lexer.specs.Quotes.{char_length, text_length, opens_quoted, quoted_length}
use Rattle.ml_lexer.specs.Pieces.{ended, is_long, is_keyword_class, is_mark_operator, is_text, word_class, word_at, marked_word_at, label_at}
use Rattle.ml_lexer.specs.Pieces.{char_or_variable, operator_of, operator_at, begins_label, begins_operator, mark_length, mark_of, sign_at}
use Rattle.ml_lexer.proofs.Local.{and_right}
use Rattle.ml_lexer.proofs.Words.{word_at_length}
use Rattle.ml_lexer.proofs.Signs.{marked_at_length, label_at_parts, operator_at_length}
use Rattle.ml_lexer.proofs.Marks.{sign_tests}
use Rattle.ml_lexer.proofs.Digits.{number_parts}
use Rattle.ml_lexer.proofs.Apart.{lexeme_tests}
use Rattle.ml_lexer.proofs.Fronts.{lexeme_of_piece}
use Rattle.lexeme_laws.specs.Table.{is_word}
use Rattle.lexeme_laws.specs.Begins.{IsMarked, LongWordBegins}
use Rattle.lexeme_laws.specs.Laws.{MarkedWordsAreShort}
use Rattle.lexeme_laws.proofs.Tests.{run_over}
use Rattle.lexeme_laws.proofs.NumberSound.{digits_of, number_ends}
use Rattle.lexeme_laws.proofs.WordSound.{word_parts, class_tests}
use Rattle.lexeme_laws.proofs.SignSound.{operator_tests, lexeme_parts}
use Rattle.lexeme_laws.proofs.SignClass.{mark_of_class}
use Rattle.lexeme_laws.proofs.QuoteSound.{ended_parts, char_parts}
use Rattle.lexeme_laws.proofs.LongNames.{above}

-- a lexeme of these classes has no mark
abbrev NeverMarked : Class → Type 0
NeverMarked k = IsMarked k → ⊥

-- what this takes has no long word behind its mark
abbrev Short : List ℕ → Piece → Type 0
Short bytes p = (k : Class) (m : ℕ) → p ≡ piece.Lexeme k m → IsMarked k → LongWordBegins (drop 1 bytes) → ⊥

cond_short : (bytes : List ℕ) (t : Bool) (p q : Piece) → Short bytes p → Short bytes q → Short bytes (cond t p q)
cond_short bytes true p q f g = f
cond_short bytes false p q f g = g

unmarked : (kind k : Class) → NeverMarked kind → kind ≡ k → NeverMarked k
unmarked kind k h e = subst NeverMarked e h

-- ---- classes without a mark

word_never : (up low : Bool) → NeverMarked (cond up class.Upper (cond low class.Lower class.Keyword))
word_never true low h = h
word_never false true h = h
word_never false false h = h

word_short : (b : List ℕ) → Short b (word_at b)
word_short b k m e mark long =
    let n = word_length b in
    let parts = word_parts (is_long n) (word_class (take n b)) k n m (sym (word_at_length b n refl) ∙ e) in
    let never = subst NeverMarked (sym (class_tests (take n b) _ _ refl refl))
    (word_never (is_ascii_uppercase (get_or (take n b) 0 0)) (is_value_name (take n b))) in
    unmarked (word_class (take n b)) k never parts.2 mark

number_never : (t : Bool) → NeverMarked (cond t class.Float class.Int)
number_never true h = h
number_never false h = h

number_short : (b : List ℕ) → Short b (number_at b)
number_short b k m e mark long =
    let n = digits_of (base_of b) b in
    let more = float_part_length (base_of b) (drop n b) in
    let ends = number_ends (nat_lt 0 more) k (n + more) (n + suffix_length (drop n b)) m b
    (sym (number_parts b (base_of b) n more refl refl refl) ∙ e) in
    unmarked (cond (nat_lt 0 more) class.Float class.Int) k (number_never (nat_lt 0 more)) ends.1 mark

text_short : (b : List ℕ) (o : Option ℕ) → Short b (ended class.Text o)
text_short b o k m e mark long = let parts = ended_parts class.Text k o m e in unmarked class.Text k (λ h. h) parts.1 mark

quoted_short : (b : List ℕ) (o : Option ℕ) → Short b (ended class.Quoted o)
quoted_short b o k m e mark long = let parts = ended_parts class.Quoted k o m e in unmarked class.Quoted k (λ h. h) parts.1 mark

operator_never : (mark unequal bang : Bool) → NeverMarked (cond mark class.Mark (cond unequal class.Infix (cond bang class.Prefix class.Infix)))
operator_never true unequal bang h = h
operator_never false true bang h = h
operator_never false false true h = h
operator_never false false false h = h

operator_short : (b : List ℕ) → Short b (operator_at b)
operator_short b k m e mark long =
    let n = 1 + operator_length (drop 1 b) in
    let w = take n b in
    let parts = lexeme_parts (operator_of w) k n m (sym (operator_at_length b n refl) ∙ e) in
    let never = subst NeverMarked (sym (operator_tests w _ _ _ refl refl refl))
    (operator_never (is_mark_operator w) (is_text "!=" w) (among "!~?" (get_or w 0 0))) in
    unmarked (operator_of w) k never parts.1 mark

marks_short : (b : List ℕ) (t : Bool) (n : ℕ) → Short b (cond t (piece.Lexeme class.Mark n) piece.Bad)
marks_short b t n k m e mark long = unmarked class.Mark k (λ h. h) (mark_of_class t n k m e) mark

sign_chain : (b : List ℕ)
    → Short b (cond (nat_lt 1 (mark_length b)) (piece.Lexeme class.Mark (mark_length b))
    (cond (begins_operator b) (operator_at b) (mark_of (mark_length b))))
sign_chain b =
    cond_short b (nat_lt 1 (mark_length b)) (piece.Lexeme class.Mark (mark_length b)) _ (marks_short b true (mark_length b)) (
    cond_short b (begins_operator b) (operator_at b) (mark_of (mark_length b)) (operator_short b)
    (marks_short b (nat_lt 0 (mark_length b)) (mark_length b)))

sign_short : (b : List ℕ) → Short b (sign_at b)
sign_short b k m e = sign_chain b k m (sym (sign_tests b _ _ refl refl) ∙ e)

-- ---- words behind a mark

word_is_long : (f rest : List ℕ) → is_word f ≡ true → 255 < length f → is_long (word_length (f ++ rest)) ≡ true
word_is_long [] rest h long = cc
word_is_long (x ∷ f) rest h long =
    let over = run_over is_identifier_byte f rest (and_right (is_word_start x) (list_all is_identifier_byte f) h) in
    above (word_length ((x ∷ f) ++ rest)) (omega (arith, over, long))

long_is_long : (b : List ℕ) → LongWordBegins b → is_long (word_length b) ≡ true
long_is_long b long =
    let n = long.0 in
    let size = length-take-le n b long.1 in
    let far = long.3 in
    ap (λ v. is_long (word_length v)) (sym (take-append-drop n b)) ∙ word_is_long (take n b) (drop n b) long.2 (omega (arith, size, far))

marked_cond : (s t : Bool) (kind k : Class) (n m : ℕ) → cond s (cond t piece.LongName (piece.Lexeme kind n)) piece.Bad ≡ piece.Lexeme k m
    → t ≡ false
marked_cond true true kind k n m e = cc
marked_cond true false kind k n m e = refl
marked_cond false t kind k n m e = cc

marked_short : (kind : Class) (b : List ℕ) → Short b (marked_word_at kind b)
marked_short kind b k m e mark long =
    let short = marked_cond (is_word_start (get_or b 1 0)) (is_long (word_length (drop 1 b))) kind k (1 + word_length (drop 1 b)) m
    (sym (marked_at_length kind b _ refl) ∙ e) in
    let wrong : true ≡ false = sym (long_is_long (drop 1 b) long) ∙ short in
    cc

label_cond : (s t : Bool) (k : Class) (n m : ℕ) → cond s piece.LongName (cond t piece.Bad (piece.Lexeme class.Label n)) ≡ piece.Lexeme k m
    → s ≡ false
label_cond true t k n m e = cc
label_cond false t k n m e = refl

label_short : (b : List ℕ) → Short b (label_at b)
label_short b k m e mark long =
    let n = word_length (drop 1 b) in
    let short = label_cond (is_long n) (is_keyword_class (word_class (take n (drop 1 b)))) k (1 + n + cond (is_at ":" (1 + n) b) 1 0) m
    (sym (label_at_parts b _ _ _ refl refl refl) ∙ e) in
    let wrong : true ≡ false = sym (long_is_long (drop 1 b) long) ∙ short in
    cc

char_short : (b : List ℕ) (n : ℕ) → Short b (piece.Lexeme class.Char n)
char_short b n k m e mark long = let parts = char_parts k n m e in unmarked class.Char k (λ h. h) parts.1 mark

quote_short : (b : List ℕ) (o : Option ℕ) → Short b (char_or_variable o b)
quote_short b None = marked_short class.TypeVar b
quote_short b (Some n) = char_short b n

chain_short : (b : List ℕ)
    → Short b (cond (is_word_start (get_or b 0 0)) (word_at b)
    (cond (is_ascii_digit (get_or b 0 0)) (number_at b)
    (cond (is_at "\"" 0 b) (ended class.Text (text_length b))
    (cond (opens_quoted b) (ended class.Quoted (quoted_length b))
    (cond (is_at "'" 0 b) (char_or_variable (char_length b) b)
    (cond (is_at "`" 0 b) (marked_word_at class.Tag b) (cond (begins_label b) (label_at b) (sign_at b))))))))
chain_short b =
    cond_short b (is_word_start (get_or b 0 0)) (word_at b) _ (word_short b) (
    cond_short b (is_ascii_digit (get_or b 0 0)) (number_at b) _ (number_short b) (
    cond_short b (is_at "\"" 0 b) (ended class.Text (text_length b)) _ (text_short b (text_length b)) (
    cond_short b (opens_quoted b) (ended class.Quoted (quoted_length b)) _ (quoted_short b (quoted_length b)) (
    cond_short b (is_at "'" 0 b) (char_or_variable (char_length b) b) _ (quote_short b (char_length b)) (
    cond_short b (is_at "`" 0 b) (marked_word_at class.Tag b) _ (marked_short class.Tag b) (
    cond_short b (begins_label b) (label_at b) (sign_at b) (label_short b) (sign_short b)))))))

pub marked_words_are_short : MarkedWordsAreShort
marked_words_are_short bytes kind n e = chain_short bytes kind n (sym (lexeme_tests bytes _ _ refl refl) ∙ lexeme_of_piece bytes kind n e)
