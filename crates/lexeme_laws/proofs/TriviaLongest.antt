-- No lexeme of the table that begins where a trivia is taken is longer.
use Rattle.std.proofs.Common.{◌≡◌, ℕ, zero, suc, ◌+◌, ◌-◌, ◌≤◌, ◌⊎◌, inl, inr, List, [], ◌∷◌, ◌++◌, Bool, true, false, not, cond, ◌==◌, ◌&&◌, ◌||◌}
use Rattle.std.proofs.Common.{length, drop, take, get_or, nat_le, nat_lt, Option, Some, None, refl, ap, sym, ◌∙◌, arith}
use Rattle.std.specs.List.{list_all}
use Rattle.std.specs.Prelude.{codes}
use Rattle.std.specs.Char.{is_ascii_digit, is_ascii_uppercase}
use Rattle.std.specs.Str.{byte, bytes_eq}
use Rattle.std.proofs.lemmas.Bool.Decides.{nat_tests}
use Rattle.std.proofs.lemmas.List.{length-take-le}
use Rattle.rotor_base.specs.Name.{is_identifier_byte, is_reserved_word, starts_as_value_name}
use Rattle.rotor_base.specs.declared.token.Class.{Class}
use Rattle.rotor_base.specs.declared.token.Class.TheVariants as class
use Rattle.ml_lexer.specs.declared.piece.Piece.{Piece}
use Rattle.ml_lexer.specs.declared.piece.Piece.TheVariants as piece
use Rattle.ml_lexer.specs.declared.trivia.Part.{Part}
use Rattle.ml_lexer.specs.declared.number.Base.{Base}
use Rattle.ml_lexer.specs.Bytes.{among, is_at, is_word_start, is_operator_byte}
use Rattle.ml_lexer.specs.Trivia.{is_unended, depth_after, size_of, opens_comment, comment_length, attribute_length, level_end, comment_part}
use Rattle.ml_lexer.specs.Trivia.{attribute_part}
use Rattle.ml_lexer.specs.Pieces.{trivia, lexeme_at, piece_at}
use Rattle.ml_lexer.proofs.Local.{which, and_left, and_right}
use Rattle.ml_lexer.proofs.Signs.{among_none}
use Rattle.ml_lexer.proofs.Apart.{lexeme_is_no_trivia}
use Rattle.ml_lexer.proofs.Fronts.{piece_tests}
use Rattle.lexeme_laws.specs.Table.{AreDigits, IsInt, IsFloat, IsChar, IsTextLexeme, IsQuoted, IsLabel, IsOfClass, is_word, is_marked_word}
use Rattle.lexeme_laws.specs.Table.{is_operator, is_prefix, is_infix, is_mark, marks}
use Rattle.lexeme_laws.specs.Laws.{TriviaAreLongest}
use Rattle.lexeme_laws.proofs.Tests.{among_fails, among_passes, not_true, any_text, or_cases, same_numbers, texts_same}
use Rattle.lexeme_laws.proofs.Longest.{keyword_is_word}

contradiction : {P : Type 0} {t : Bool} → t ≡ true → t ≡ false → P
contradiction e f = let wrong : true ≡ false = sym e ∙ f in cc

-- the bytes with which a trivia may begin
abbrev may_open : ℕ → Bool
may_open c = among " \t\n\r\u{c}([" c

word_first : (w : List ℕ) → is_word w ≡ true → may_open (get_or w 0 0) ≡ false
word_first [] h = cc
word_first (x ∷ f) h = among_none is_word_start (codes " \t\n\r\u{c}([") x refl (and_left (is_word_start x) (list_all is_identifier_byte f) h)

digit_first : (d : ℕ) → is_ascii_digit d ≡ true → may_open d ≡ false
digit_first d h = among_none is_ascii_digit (codes " \t\n\r\u{c}([") d refl h

marked_first : (w : List ℕ) → is_marked_word "~?" w ≡ true → may_open (get_or w 0 0) ≡ false
marked_first [] h = cc
marked_first (x ∷ f) h = among_fails may_open (codes "~?") x refl (and_left (among "~?" x) (is_word f) h)

variable_first : (w : List ℕ) → is_marked_word "'" w ≡ true → may_open (get_or w 0 0) ≡ false
variable_first [] h = cc
variable_first (x ∷ f) h = among_fails may_open (codes "'") x refl (and_left (among "'" x) (is_word f) h)

tag_first : (w : List ℕ) → is_marked_word "`" w ≡ true → may_open (get_or w 0 0) ≡ false
tag_first [] h = cc
tag_first (x ∷ f) h = among_fails may_open (codes "`") x refl (and_left (among "`" x) (is_word f) h)

bang_first : (w : List ℕ) → is_operator "!" w ≡ true → may_open (get_or w 0 0) ≡ false
bang_first [] h = cc
bang_first (x ∷ f) h = among_fails may_open (codes "!") x refl (and_left (among "!" x) (list_all is_operator_byte f) h)

tilde_first : (w : List ℕ) → is_operator "~?" w ≡ true → may_open (get_or w 0 0) ≡ false
tilde_first [] h = cc
tilde_first (x ∷ f) h = among_fails may_open (codes "~?") x refl (and_left (among "~?" x) (list_all is_operator_byte f) h)

run_first : (w : List ℕ) → is_operator "=<>@^|&+-*/$%#" w ≡ true → may_open (get_or w 0 0) ≡ false
run_first [] h = cc
run_first (x ∷ f) h = among_fails may_open (codes "=<>@^|&+-*/$%#") x refl (and_left (among "=<>@^|&+-*/$%#" x) (list_all is_operator_byte f) h)

label_first : (w : List ℕ) → IsLabel w → may_open (get_or w 0 0) ≡ false
label_first w (IsLabel.without_colon text h) = marked_first text h
label_first w (IsLabel.with_colon [] h) = cc
label_first w (IsLabel.with_colon (x ∷ text) h) = marked_first (x ∷ text) h

char_first : (w : List ℕ) → IsChar w → may_open (get_or w 0 0) ≡ false
char_first w (IsChar.plain c h) = refl
char_first w (IsChar.short c h) = refl
char_first w (IsChar.decimal a b c h i j) = refl
char_first w (IsChar.hexadecimal a b h i) = refl
char_first w (IsChar.octal a b c h i j) = refl

text_first : (w : List ℕ) → IsTextLexeme w → may_open (get_or w 0 0) ≡ false
text_first w (IsTextLexeme.closed body is) = refl

quoted_first : (w : List ℕ) → IsQuoted w → may_open (get_or w 0 0) ≡ false
quoted_first w (IsQuoted.quoted word t h is) = refl

number_first : (base : Base) (digits rest : List ℕ) → AreDigits base digits → may_open (get_or (digits ++ rest) 0 0) ≡ false
number_first base digits rest (AreDigits.decimal first f d all) = digit_first first d
number_first base digits rest (AreDigits.based own letter first f h d all) = refl

int_first : (w : List ℕ) → IsInt w → may_open (get_or w 0 0) ≡ false
int_first w (IsInt.int base digits suffix is e) = number_first base digits suffix is

float_first : (w : List ℕ) → IsFloat w → may_open (get_or w 0 0) ≡ false
float_first w (IsFloat.with_fraction base digits more is f has) = number_first base digits more is
float_first w (IsFloat.with_exponent base digits more is f has) = number_first base digits more is
float_first w (IsFloat.with_both base digits more power is f g has) = number_first base digits (more ++ power) is

prefix_first : (w : List ℕ) → is_prefix w ≡ true → may_open (get_or w 0 0) ≡ false
prefix_first w h = elim (or_cases (is_operator "!" w && not (bytes_eq w (codes "!="))) (is_operator "~?" w && nat_lt 1 (length w)) h) [
  | inl y ↦ bang_first w (and_left (is_operator "!" w) (not (bytes_eq w (codes "!="))) y)
  | inr y ↦ tilde_first w (and_left (is_operator "~?" w) (nat_lt 1 (length w)) y)
]

infix_first : (w : List ℕ) → is_infix w ≡ true → may_open (get_or w 0 0) ≡ false
infix_first w h = elim (or_cases (is_operator "=<>@^|&+-*/$%#" w) (bytes_eq w (codes "!=")) h) [
  | inl y ↦ run_first w y
  | inr y ↦ ap (λ v. may_open (get_or v 0 0)) (texts_same w (codes "!=") y)
]

-- a lexeme that may begin where a trivia does is a Mark
mark_or_other : (other : Class) (w : List ℕ) → IsOfClass other w → (is_mark w ≡ true) ⊎ (may_open (get_or w 0 0) ≡ false)
mark_or_other class.Lower w h =
    inr (word_first w (and_left (is_word w) (starts_as_value_name w) (and_left (is_word w && starts_as_value_name w) (not (is_reserved_word w)) h)))
mark_or_other class.Upper w h = inr (word_first w (and_left (is_word w) (is_ascii_uppercase (get_or w 0 0)) h))
mark_or_other class.Keyword w h = inr (word_first w (keyword_is_word w h))
mark_or_other class.Int w h = inr (int_first w h)
mark_or_other class.Float w h = inr (float_first w h)
mark_or_other class.Char w h = inr (char_first w h)
mark_or_other class.Text w h = inr (text_first w h)
mark_or_other class.Quoted w h = inr (quoted_first w h)
mark_or_other class.TypeVar w h = inr (variable_first w h)
mark_or_other class.Tag w h = inr (tag_first w h)
mark_or_other class.Label w h = inr (label_first w h)
mark_or_other class.Prefix w h = inr (prefix_first w h)
mark_or_other class.Infix w h = inr (infix_first w h)
mark_or_other class.Mark w h = inl h

-- ---- where a trivia is taken

level_grows : (p : List ℕ → Part) (d k n : ℕ) (b : List ℕ) (m : ℕ) → level_end p d k n b ≡ Some m → n ≤ m
unfolding level_end
level_grows p d k n [] m e = cc
level_grows p d (suc k) n (x ∷ b) m e = let far = level_grows p d k (n + 1) b m e in omega arith
level_grows p d zero n (x ∷ b) m e = elim (which (is_unended (p (x ∷ b)))) [
  | inl u ↦ let got = rw u at e in cc
  | inr u ↦ elim (which (depth_after (p (x ∷ b)) d == 0)) [
    | inl z ↦ let got = rw (u, z) at e in let at : n + size_of (p (x ∷ b)) ≡ m = cc in omega arith
    | inr z ↦ let far = level_grows p (depth_after (p (x ∷ b)) d) (size_of (p (x ∷ b)) - 1) (n + 1) b m (rw (u, z) at e) in omega arith
  ]
]

-- what begins there
record Opening (b : List ℕ) (n : ℕ) : Type 0 where
  opens : may_open (get_or b 0 0) ≡ true
  some : 1 ≤ n
  long : (among " \t\n\r\u{c}" (get_or b 0 0) ≡ false) → 2 ≤ n
  no_percent : (among " \t\n\r\u{c}" (get_or b 0 0) ≡ false) → (get_or b 1 0 == byte "%") ≡ false

trivia_length : (o : Option ℕ) (n : ℕ) → trivia o ≡ piece.Trivia n → o ≡ Some n
trivia_length None n e = cc
trivia_length (Some k) n e = let same : k ≡ n = cc in ap (λ v. Some v) same

comment_long : (b : List ℕ) (n : ℕ) → comment_length b ≡ Some n → 2 ≤ n
unfolding comment_length
comment_long b n e = level_grows comment_part 1 0 2 (drop 2 b) n e

attribute_long : (b : List ℕ) (n : ℕ) → attribute_length b ≡ Some n → 2 ≤ n
unfolding attribute_length
attribute_long b n e = level_grows attribute_part 1 0 2 (drop 2 b) n e

second_is : (k c : ℕ) → (k == byte "%") ≡ false → (c == k) ≡ true → (c == byte "%") ≡ false
second_is k c nay e = ap (λ v. v == byte "%") (same_numbers c k e) ∙ nay

white_opens : (c : ℕ) → among " \t\n\r\u{c}" c ≡ true → may_open c ≡ true
white_opens c h = among_passes may_open (codes " \t\n\r\u{c}") c refl h

blank_opening : (b : List ℕ) (n : ℕ) → among " \t\n\r\u{c}" (get_or b 0 0) ≡ true → ◌≡◌ {A = Piece} (piece.Trivia 1) (piece.Trivia n) → Opening b n
blank_opening b n white e =
    let one : 1 ≡ n = cc in
    record {
      opens = white_opens (get_or b 0 0) white;
      some = omega (arith, one);
      long = λ nay. contradiction white nay;
      no_percent =
          λ nay. contradiction white nay;
    }

pair_opening : (k l : ℕ) (b : List ℕ) (n : ℕ) → may_open k ≡ true → (l == byte "%") ≡ false → ((get_or b 0 0 == k) && (get_or b 1 0 == l)) ≡ true
    → 2 ≤ n → Opening b n
pair_opening k l b n opens nay h long =
    let first = same_numbers (get_or b 0 0) k (and_left (get_or b 0 0 == k) (get_or b 1 0 == l) h) in
    let second = and_right (get_or b 0 0 == k) (get_or b 1 0 == l) h in
    record {
      opens = ap may_open first ∙ opens;
      some = omega (arith, long);
      long = λ _. long;
      no_percent =
          λ _. second_is l (get_or b 1 0) nay second;
    }

opening_of : (b : List ℕ) (n : ℕ) (w o t : Bool) → among " \t\n\r\u{c}" (get_or b 0 0) ≡ w → opens_comment b ≡ o
    → (is_at "[" 0 b && is_at "@" 1 b) ≡ t
    → cond w (piece.Trivia 1) (cond o (trivia (comment_length b)) (cond t (trivia (attribute_length b)) (lexeme_at b))) ≡ piece.Trivia n
    → Opening b n
opening_of b n true o t f g h e = blank_opening b n f e
opening_of b n false true t f g h e = pair_opening (byte "(") (byte "*") b n refl refl g (comment_long b n (trivia_length (comment_length b) n e))
opening_of b n false false true f g h e =
    pair_opening (byte "[") (byte "@") b n refl refl h (attribute_long b n (trivia_length (attribute_length b) n e))
opening_of b n false false false f g h e = absurd (lexeme_is_no_trivia b n e)

opening : (b : List ℕ) (n : ℕ) → piece_at b ≡ piece.Trivia n → Opening b n
opening b n e = opening_of b n _ _ _ refl refl refl (sym (piece_tests b _ _ refl refl) ∙ e)

-- a Mark has two bytes at most, but `[%%`
abbrev short_mark : List ℕ → Bool
short_mark w = not (among " \t\n\r\u{c}" (get_or w 0 0)) && (nat_le (length w) 2 || get_or w 1 0 == byte "%")

mark_short : (w : List ℕ) → is_mark w ≡ true → short_mark w ≡ true
mark_short w h = any_text short_mark marks w refl h

fits_two : (n m : ℕ) → nat_le m 2 ≡ true → 2 ≤ n → m ≤ n
fits_two n m h long = grind (arith, nat_tests, h, long)

longest_mark : (x y : ℕ) (f s : List ℕ) (n : ℕ) → Opening (x ∷ y ∷ s) n → is_mark (x ∷ y ∷ f) ≡ true → length (x ∷ y ∷ f) ≤ n
longest_mark x y f s n begun h =
    let short = mark_short (x ∷ y ∷ f) h in
    let dark = not_true (among " \t\n\r\u{c}" x) (and_left (not (among " \t\n\r\u{c}" x)) (nat_le (length (x ∷ y ∷ f)) 2 || y == byte "%") short) in
    elim (or_cases (nat_le (length (x ∷ y ∷ f)) 2) (y == byte "%")
    (and_right (not (among " \t\n\r\u{c}" x)) (nat_le (length (x ∷ y ∷ f)) 2 || y == byte "%") short)) [
      | inl two ↦ fits_two n (length (x ∷ y ∷ f)) two (begun.long dark)
      | inr percent ↦ contradiction percent (begun.no_percent dark)
    ]

longest_at : (x : ℕ) (s : List ℕ) (n : ℕ) → Opening (x ∷ s) n → (other : Class) (m : ℕ) → suc m ≤ length (x ∷ s) → IsOfClass other (x ∷ take m s)
    → suc m ≤ n
longest_at x s n begun other zero fits h = begun.some
longest_at x [] n begun other (suc m) fits h = absurd (omega (arith, fits))
longest_at x (y ∷ s) n begun other (suc m) fits h = elim (mark_or_other other (x ∷ y ∷ take m s) h) [
  | inl mark ↦
      let size = length-take-le m s (omega (arith, fits)) in
      let most = longest_mark x y (take m s) s n begun mark in
      omega (arith, size, most)
  | inr none ↦ contradiction begun.opens none
]

pub trivia_are_longest : TriviaAreLongest
trivia_are_longest bytes n e other zero begins = omega arith
trivia_are_longest [] n e other (suc m) begins = let fits = begins.0 in absurd (omega (arith, fits))
trivia_are_longest (x ∷ s) n e other (suc m) begins = longest_at x s n (opening (x ∷ s) n e) other m begins.0 begins.1
