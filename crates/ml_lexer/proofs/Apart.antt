-- What the lexemes are not.
use Rattle.std.proofs.Common.{◌≡◌, ℕ, ◌+◌, List, Bool, true, false, cond, inl, inr, take, drop, get_or, nat_lt, Option, Some, None, refl, ap, sym}
use Rattle.std.proofs.Common.{◌∙◌}
use Rattle.std.specs.Char.{is_ascii_digit}
use Rattle.rotor_base.specs.Name.{is_identifier_byte}
use Rattle.rotor_base.specs.declared.token.Class.{Class}
use Rattle.rotor_base.specs.declared.token.Class.TheVariants as class
use Rattle.ml_lexer.specs.declared.piece.Piece.{Piece}
use Rattle.ml_lexer.specs.declared.piece.Piece.TheVariants as piece
use Rattle.ml_lexer.specs.Bytes.{among, is_at, is_word_start, word_length, operator_length}
use Rattle.ml_lexer.specs.Numbers.{base_of, head_length, digits_length, float_part_length, suffix_length, unless_identifier_follows, number_at}
use Rattle.ml_lexer.specs.Quotes.{char_length, text_length, opens_quoted, quoted_length}
use Rattle.ml_lexer.specs.Pieces.{is_keyword_class, ended, is_long, word_class, word_at, marked_word_at, label_at, is_text, is_mark_operator}
use Rattle.ml_lexer.specs.Pieces.{operator_of, operator_at, mark_length, mark_of, char_or_variable, begins_label, begins_operator, sign_at, lexeme_at}
use Rattle.ml_lexer.proofs.Local.{which}
use Rattle.ml_lexer.proofs.Words.{word_at_length}
use Rattle.ml_lexer.proofs.Signs.{marked_at_length, label_at_parts, operator_at_length}
use Rattle.ml_lexer.proofs.Marks.{sign_tests}
use Rattle.ml_lexer.proofs.Digits.{number_parts}

-- neither trivia nor a Lower
abbrev other : Piece → Bool
other (piece.Trivia n) = false
other (piece.Lexeme class.Lower n) = false
other (piece.Lexeme _ n) = true
other piece.Bad = true
other piece.LongName = true

cond_other : (t : Bool) (a c : Piece) → other a ≡ true → other c ≡ true → other (cond t a c) ≡ true
cond_other true a c f g = f
cond_other false a c f g = g

follows_float : (n : ℕ) (b : List ℕ) → other (unless_identifier_follows class.Float n b) ≡ true
follows_float n b = cond_other (is_identifier_byte (get_or b n 0)) piece.Bad (piece.Lexeme class.Float n) refl refl

follows_int : (n : ℕ) (b : List ℕ) → other (unless_identifier_follows class.Int n b) ≡ true
follows_int n b = cond_other (is_identifier_byte (get_or b n 0)) piece.Bad (piece.Lexeme class.Int n) refl refl

number_other : (b : List ℕ) → other (number_at b) ≡ true
number_other b =
    let base = base_of b in
    let n = head_length base + digits_length base (drop (head_length base) b) in
    let more = float_part_length base (drop n b) in
    ap other (number_parts b base n more refl refl refl)
    ∙ cond_other (nat_lt 0 more) (unless_identifier_follows class.Float (n + more) b)
    (unless_identifier_follows class.Int (n + suffix_length (drop n b)) b) (follows_float (n + more) b)
    (follows_int (n + suffix_length (drop n b)) b)

text_other : (o : Option ℕ) → other (ended class.Text o) ≡ true
text_other None = refl
text_other (Some n) = refl

quoted_other : (o : Option ℕ) → other (ended class.Quoted o) ≡ true
quoted_other None = refl
quoted_other (Some n) = refl

tag_other : (b : List ℕ) → other (marked_word_at class.Tag b) ≡ true
tag_other b = ap other (marked_at_length class.Tag b _ refl)
    ∙ cond_other (is_word_start (get_or b 1 0))
    (cond (is_long (word_length (drop 1 b))) piece.LongName (piece.Lexeme class.Tag (1 + word_length (drop 1 b)))) piece.Bad
    (cond_other (is_long (word_length (drop 1 b))) piece.LongName (piece.Lexeme class.Tag (1 + word_length (drop 1 b))) refl refl) refl

variable_other : (b : List ℕ) → other (marked_word_at class.TypeVar b) ≡ true
variable_other b = ap other (marked_at_length class.TypeVar b _ refl)
    ∙ cond_other (is_word_start (get_or b 1 0))
    (cond (is_long (word_length (drop 1 b))) piece.LongName (piece.Lexeme class.TypeVar (1 + word_length (drop 1 b)))) piece.Bad
    (cond_other (is_long (word_length (drop 1 b))) piece.LongName (piece.Lexeme class.TypeVar (1 + word_length (drop 1 b))) refl refl) refl

quote_other : (o : Option ℕ) (b : List ℕ) → other (char_or_variable o b) ≡ true
quote_other None b = variable_other b
quote_other (Some n) b = refl

label_other : (b : List ℕ) → other (label_at b) ≡ true
label_other b = ap other (label_at_parts b _ _ _ refl refl refl) ∙ cond_other (is_long (word_length (drop 1 b))) piece.LongName
    (cond (is_keyword_class (word_class (take (word_length (drop 1 b)) (drop 1 b)))) piece.Bad
    (piece.Lexeme class.Label (1 + word_length (drop 1 b) + cond (is_at ":" (1 + word_length (drop 1 b)) b) 1 0))) refl
    (cond_other (is_keyword_class (word_class (take (word_length (drop 1 b)) (drop 1 b)))) piece.Bad
    (piece.Lexeme class.Label (1 + word_length (drop 1 b) + cond (is_at ":" (1 + word_length (drop 1 b)) b) 1 0)) refl refl)

classes_other : (a b c : Bool) (n : ℕ) → other (piece.Lexeme (cond a class.Mark (cond b class.Infix (cond c class.Prefix class.Infix))) n) ≡ true
classes_other true b c n = refl
classes_other false true c n = refl
classes_other false false true n = refl
classes_other false false false n = refl

operator_tests : (w : List ℕ)
    → operator_of w ≡ cond (is_mark_operator w) class.Mark
    (cond (is_text "!=" w) class.Infix (cond (among "!~?" (get_or w 0 0)) class.Prefix class.Infix))
unfolding operator_of
operator_tests w = refl

class_other : (w : List ℕ) (n : ℕ) → other (piece.Lexeme (operator_of w) n) ≡ true
class_other w n = ap (λ k. other (piece.Lexeme k n)) (operator_tests w)
    ∙ classes_other (is_mark_operator w) (is_text "!=" w) (among "!~?" (get_or w 0 0)) n

operator_other : (b : List ℕ) → other (operator_at b) ≡ true
operator_other b = ap other (operator_at_length b _ refl) ∙ class_other (take (1 + operator_length (drop 1 b)) b) (1 + operator_length (drop 1 b))

mark_other : (m : ℕ) → other (mark_of m) ≡ true
mark_other m = cond_other (nat_lt 0 m) (piece.Lexeme class.Mark m) piece.Bad refl refl

sign_other : (b : List ℕ) → other (sign_at b) ≡ true
sign_other b = ap other (sign_tests b _ _ refl refl) ∙ cond_other (nat_lt 1 (mark_length b)) (piece.Lexeme class.Mark (mark_length b))
    (cond (begins_operator b) (operator_at b) (mark_of (mark_length b))) refl
    (cond_other (begins_operator b) (operator_at b) (mark_of (mark_length b)) (operator_other b) (mark_other (mark_length b)))

pub lexeme_tests : (b : List ℕ) (o t : Bool) → opens_quoted b ≡ o → begins_label b ≡ t → lexeme_at b ≡ cond (is_word_start (get_or b 0 0)) (word_at b)
    (cond (is_ascii_digit (get_or b 0 0)) (number_at b)
    (cond (is_at "\"" 0 b) (ended class.Text (text_length b))
    (cond o (ended class.Quoted (quoted_length b))
    (cond (is_at "'" 0 b) (char_or_variable (char_length b) b)
    (cond (is_at "`" 0 b) (marked_word_at class.Tag b) (cond t (label_at b) (sign_at b)))))))
unfolding lexeme_at
lexeme_tests b o t e f = rw (e, f) refl

-- where no word begins
-- what begins where no word does
abbrev no_word : List ℕ → Piece
no_word b = cond (is_ascii_digit (get_or b 0 0)) (number_at b)
    (cond (is_at "\"" 0 b) (ended class.Text (text_length b))
    (cond (opens_quoted b) (ended class.Quoted (quoted_length b))
    (cond (is_at "'" 0 b) (char_or_variable (char_length b) b)
    (cond (is_at "`" 0 b) (marked_word_at class.Tag b) (cond (begins_label b) (label_at b) (sign_at b))))))

no_word_other : (b : List ℕ) → is_word_start (get_or b 0 0) ≡ false → other (lexeme_at b) ≡ true
no_word_other b nay =
    let text = ended class.Text (text_length b) in
    let quoted = ended class.Quoted (quoted_length b) in
    let quote = char_or_variable (char_length b) b in
    let tag = marked_word_at class.Tag b in
    let six = cond (begins_label b) (label_at b) (sign_at b) in
    let five = cond (is_at "`" 0 b) tag six in
    let four = cond (is_at "'" 0 b) quote five in
    let three = cond (opens_quoted b) quoted four in
    let two = cond (is_at "\"" 0 b) text three in
    ap other (lexeme_tests b (opens_quoted b) (begins_label b) refl refl ∙ ap (λ t. cond t (word_at b) (no_word b)) nay)
    ∙ cond_other (is_ascii_digit (get_or b 0 0)) (number_at b) two (number_other b) (
    cond_other (is_at "\"" 0 b) text three (text_other (text_length b)) (
    cond_other (opens_quoted b) quoted four (quoted_other (quoted_length b)) (
    cond_other (is_at "'" 0 b) quote five (quote_other (char_length b) b) (
    cond_other (is_at "`" 0 b) tag six (tag_other b) (
    cond_other (begins_label b) (label_at b) (sign_at b) (label_other b) (sign_other b))))))

pub word_lexeme : (b : List ℕ) → is_word_start (get_or b 0 0) ≡ true → lexeme_at b ≡ word_at b
word_lexeme b aye = lexeme_tests b (opens_quoted b) (begins_label b) refl refl ∙ ap (λ t. cond t (word_at b) (no_word b)) aye

long_or_lexeme : (t : Bool) (kind : Class) (n m : ℕ) → cond t piece.LongName (piece.Lexeme kind n) ≡ piece.Trivia m → ⊥
long_or_lexeme true kind n m e = cc
long_or_lexeme false kind n m e = cc

pub lexeme_is_no_trivia : (b : List ℕ) (n : ℕ) → lexeme_at b ≡ piece.Trivia n → ⊥
lexeme_is_no_trivia b n e = elim (which (is_word_start (get_or b 0 0))) [
  | inl y ↦ long_or_lexeme _ _ _ n (sym (word_at_length b _ refl) ∙ sym (word_lexeme b y) ∙ e)
  | inr y ↦ let wrong : true ≡ false = sym (no_word_other b y) ∙ ap other e in cc
]

-- a Lower is a word
pub lower_is_word : (b : List ℕ) (n : ℕ) → lexeme_at b ≡ piece.Lexeme class.Lower n → word_at b ≡ piece.Lexeme class.Lower n
lower_is_word b n e = elim (which (is_word_start (get_or b 0 0))) [
  | inl y ↦ sym (word_lexeme b y) ∙ e
  | inr y ↦ let wrong : true ≡ false = sym (no_word_other b y) ∙ ap other e in cc
]
