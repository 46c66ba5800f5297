-- What is taken is the longest lexeme of the table that begins there.
use Rattle.std.proofs.Common.{◌≡◌, ℕ, ◌+◌, ◌≤◌, inl, inr, List, ◌++◌, true, length, drop, take, Option, Some, None, refl, ap, sym, ◌∙◌, arith}
use Rattle.std.proofs.Common.{length-append}
use Rattle.std.specs.Prelude.{codes}
use Rattle.std.specs.Str.{byte, bytes_eq}
use Rattle.std.proofs.lemmas.List.{take-append-drop, length-take-le}
use Rattle.rotor_base.specs.Name.{keywords, is_keyword_word, is_reserved_word, starts_as_value_name}
use Rattle.rotor_base.specs.declared.token.Class.{Class}
use Rattle.rotor_base.specs.declared.token.Class.TheVariants as class
use Rattle.ml_lexer.specs.Quotes.{char_length}
use Rattle.ml_lexer.specs.Pieces.{piece_at}
use Rattle.ml_lexer.proofs.Local.{and_left}
use Rattle.std.specs.Char.{is_ascii_uppercase}
use Rattle.std.specs.Prelude.{slice_index, not, ◌&&◌}
use Rattle.lexeme_laws.specs.Table.{IsLabel, is_word}
use Rattle.lexeme_laws.specs.Begins.{Begins, NoCharBegins}
use Rattle.lexeme_laws.specs.Laws.{LexemesAreLongest}
use Rattle.lexeme_laws.proofs.Tests.{or_cases, any_text, last_byte, texts_same}
use Rattle.lexeme_laws.proofs.WordReach.{Reaches, word_reaches, variable_reaches, tag_reaches, label_reaches, colon_reaches}
use Rattle.lexeme_laws.proofs.SignReach.{prefix_reaches, infix_reaches, mark_reaches}
use Rattle.lexeme_laws.proofs.NumberReach.{int_reaches}
use Rattle.lexeme_laws.proofs.FloatReach.{float_reaches}
use Rattle.lexeme_laws.proofs.QuoteReach.{char_reaches, text_reaches, quoted_reaches}
use Rattle.lexeme_laws.proofs.CharSound.{char_sound}

pub keyword_is_word : (w : List ℕ) → is_reserved_word w ≡ true → is_word w ≡ true
unfolding is_keyword_word
keyword_is_word w h = elim (or_cases (is_keyword_word w) (bytes_eq w (codes "_")) h) [
  | inl y ↦ any_text is_word keywords w refl y
  | inr y ↦ ap is_word (texts_same w (codes "_") y)
]

pub none_of : (o : Option ℕ) → ((n : ℕ) → o ≡ Some n → ⊥) → o ≡ None
none_of None f = refl
none_of (Some n) f = absurd (f n refl)

pub no_char : (bytes : List ℕ) → NoCharBegins bytes → char_length bytes ≡ None
no_char bytes h = none_of (char_length bytes) (λ n e. let sound = char_sound bytes n e in h n sound.0 sound.1)

-- what reaches over the front reaches so far
moved : (bytes : List ℕ) (m : ℕ) → m ≤ length bytes → Reaches (length (take m bytes)) (take m bytes ++ drop m bytes) → Reaches m bytes
moved bytes m fits far k n e =
    let size = length-take-le m bytes fits in
    let reached = far k n (ap piece_at (take-append-drop m bytes) ∙ e) in
    omega (arith, size, reached)

label_all : (f rest : List ℕ) → IsLabel f → Reaches (length f) (f ++ rest)
label_all f rest (IsLabel.without_colon text h) k m e = label_reaches text rest h k m e
label_all f rest (IsLabel.with_colon text h) k m e =
    let far = colon_reaches text rest h k m (ap piece_at (sym (last_byte text (byte ":") rest)) ∙ e) in
    let size : length (text ++ codes ":") ≡ length text + 1 = length-append text (codes ":") in
    omega (arith, far, size)

reach : (other : Class) (bytes : List ℕ) (m : ℕ) → Begins other m bytes → Reaches m bytes
reach class.Lower bytes m h =
    moved bytes m h.0 (word_reaches (take m bytes) (drop m bytes)
    (and_left (is_word (take m bytes)) (starts_as_value_name (take m bytes))
    (and_left (is_word (take m bytes) && starts_as_value_name (take m bytes)) (not (is_reserved_word (take m bytes))) h.1)))
reach class.Upper bytes m h =
    moved bytes m h.0 (word_reaches (take m bytes) (drop m bytes)
    (and_left (is_word (take m bytes)) (is_ascii_uppercase (slice_index (take m bytes) 0)) h.1))
reach class.Keyword bytes m h = moved bytes m h.0 (word_reaches (take m bytes) (drop m bytes) (keyword_is_word (take m bytes) h.1))
reach class.Int bytes m h = moved bytes m h.0 (int_reaches (take m bytes) (drop m bytes) h.1)
reach class.Float bytes m h = moved bytes m h.0 (float_reaches (take m bytes) (drop m bytes) h.1)
reach class.Char bytes m h = moved bytes m h.0 (char_reaches (take m bytes) (drop m bytes) h.1)
reach class.Text bytes m h = moved bytes m h.0 (text_reaches (take m bytes) (drop m bytes) h.1)
reach class.Quoted bytes m h = moved bytes m h.0 (quoted_reaches (take m bytes) (drop m bytes) h.1)
reach class.TypeVar bytes m h =
    moved bytes m h.0 (variable_reaches (take m bytes) (drop m bytes) h.1 (ap char_length (take-append-drop m bytes) ∙ no_char bytes h.2.1))
reach class.Tag bytes m h = moved bytes m h.0 (tag_reaches (take m bytes) (drop m bytes) h.1)
reach class.Label bytes m h = moved bytes m h.0 (label_all (take m bytes) (drop m bytes) h.1)
reach class.Prefix bytes m h = moved bytes m h.0 (prefix_reaches (take m bytes) (drop m bytes) h.1)
reach class.Infix bytes m h = moved bytes m h.0 (infix_reaches (take m bytes) (drop m bytes) h.1)
reach class.Mark bytes m h = moved bytes m h.0 (mark_reaches (take m bytes) (drop m bytes) h.1)

pub lexemes_are_longest : LexemesAreLongest
lexemes_are_longest bytes kind n e other m begins = reach other bytes m begins kind n e
