-- The table of lexemes: which texts are a lexeme of each class, whatever follows them (the OCaml manual, "Lexical
-- conventions").
use Rattle.std.specs.Prelude.{ℕ, List, [], ◌∷◌, ◌++◌, Bool, false, not, ◌≢◌}
use Rattle.std.specs.Prelude.{◌==◌, ◌||◌, ◌&&◌, nat_lt, nat_eq, IsTrue, IsFalse, codes, length, slice_index}
use Rattle.std.specs.Char.{is_ascii_digit, is_ascii_hexdigit, is_ascii_uppercase}
use Rattle.std.specs.List.{list_all, list_any, starts_with}
use Rattle.std.specs.Str.{byte, bytes_eq}
use Prim.Native.String.{String}
use Rattle.rotor_base.specs.Name.{is_identifier_byte, is_reserved_word, starts_as_value_name}
use Rattle.rotor_base.specs.declared.token.Class.{Class}
use Rattle.rotor_base.specs.declared.token.Class.TheVariants as class
use Rattle.ml_lexer.specs.Bytes.{among, is_word_start, is_operator_byte, is_quoted_word_byte}
use Rattle.ml_lexer.specs.Numbers.{begins_exponent, has_floats, is_digit_of}
use Rattle.ml_lexer.specs.Quotes.{is_octal_digit}
use Rattle.ml_lexer.specs.declared.number.Base.{Base}
use Rattle.ml_lexer.specs.declared.number.Base.TheVariants.{Binary, Octal, Decimal, Hexadecimal}

-- ---- identifiers, keywords and labels (the manual, "Identifiers", "Keywords" and "Label names")

-- a letter or `_`, and identifier characters
abbrev pub is_word : List ℕ → Bool
is_word [] = false
is_word (c ∷ rest) = is_word_start c && list_all is_identifier_byte rest

-- a word that begins with a lower-case letter or `_`, is not `_` and not a keyword
abbrev pub is_lower : List ℕ → Bool
is_lower text = is_word text && starts_as_value_name text && not (is_reserved_word text)

-- a word that begins with an upper-case letter
abbrev pub is_upper : List ℕ → Bool
is_upper text = is_word text && is_ascii_uppercase (slice_index text 0)

-- this character and a word
abbrev pub is_marked_word : String → List ℕ → Bool
is_marked_word mark [] = false
is_marked_word mark (c ∷ word) = among mark c && is_word word

-- `~` or `?` and a word, also with a `:` that follows directly
pub data IsLabel : List ℕ → Type 0 where
  without_colon : (text : List ℕ) → IsTrue (is_marked_word "~?" text) → IsLabel text
  with_colon : (text : List ℕ) → IsTrue (is_marked_word "~?" text) → IsLabel (text ++ codes ":")

-- ---- signs (the manual, "Prefix and infix symbols" and "Keywords")

-- one of these characters, with operator characters, none or more
abbrev pub is_operator : String → List ℕ → Bool
is_operator firsts [] = false
is_operator firsts (c ∷ rest) = among firsts c && list_all is_operator_byte rest

-- `!` with operator characters, except `!=`; `~` or `?` with one operator character or more
abbrev pub is_prefix : List ℕ → Bool
is_prefix text = (is_operator "!" text && not (bytes_eq text (codes "!="))) || (is_operator "~?" text && nat_lt 1 (length text))

-- one of `= < > @ ^ | & + - * / $ %` or `#` with operator characters; `!=`
abbrev pub is_infix : List ℕ → Bool
is_infix text = is_operator "=<>@^|&+-*/$%#" text || bytes_eq text (codes "!=")

-- the marks
abbrev pub marks : List (List ℕ)
marks =
    codes "(" ∷ codes ")" ∷ codes "[" ∷ codes "]" ∷ codes "{" ∷ codes "}" ∷ codes "[|" ∷ codes "|]" ∷ codes "[<" ∷
    codes "[>" ∷ codes "[%" ∷ codes "[%%" ∷ codes "{%" ∷ codes ";" ∷ codes ";;" ∷ codes "," ∷ codes "." ∷ codes ".." ∷
    codes ":" ∷ codes "::" ∷ codes ":=" ∷ codes ":>" ∷ codes "->" ∷ codes "<-" ∷ codes "|" ∷ codes "=" ∷ codes "~" ∷
    codes "?" ∷ []

abbrev pub is_mark : List ℕ → Bool
is_mark text = list_any (λ mark. bytes_eq mark text) marks

-- ---- numbers (the manual, "Integer literals" and "Floating-point literals")

-- digits of a base and `_`, none or more
abbrev pub are_digits : Base → List ℕ → Bool
are_digits base text = list_all (λ c. is_digit_of base c || c == byte "_") text

-- the letter of a base that has one
abbrev pub is_base_letter : Base → ℕ → Bool
is_base_letter Hexadecimal c = among "xX" c
is_base_letter Octal c = among "oO" c
is_base_letter Binary c = among "bB" c
is_base_letter Decimal c = false

-- decimal digits and `_` after a first digit; or `0x`, `0o`, `0b` with a digit of that base and then such digits and
-- `_`
pub data AreDigits : Base → List ℕ → Type 0 where
  decimal :
      (first : ℕ) (rest : List ℕ) → IsTrue (is_digit_of Decimal first) → IsTrue (are_digits Decimal rest)
      → AreDigits Decimal (first ∷ rest)
  based :
      (base : Base) (letter first : ℕ) (rest : List ℕ) → IsTrue (is_base_letter base letter) → IsTrue (is_digit_of base first)
      → IsTrue (are_digits base rest) → AreDigits base (byte "0" ∷ letter ∷ first ∷ rest)

-- at most one of `l`, `L`, `n`
pub data IsSuffix : List ℕ → Type 0 where
  none : IsSuffix []
  one : (c : ℕ) → IsTrue (among "lLn" c) → IsSuffix (c ∷ [])

pub data IsInt : List ℕ → Type 0 where
  int : (base : Base) (digits suffix : List ℕ) → AreDigits base digits → IsSuffix suffix → IsInt (digits ++ suffix)

-- `.` with digits and `_`, none or more
pub data IsFraction (base : Base) : List ℕ → Type 0 where
  fraction : (digits : List ℕ) → IsTrue (are_digits base digits) → IsFraction base (byte "." ∷ digits)

-- an optional sign
pub data IsSign : List ℕ → Type 0 where
  none : IsSign []
  one : (c : ℕ) → IsTrue (among "+-" c) → IsSign (c ∷ [])

-- an exponent `e` or `E`, in hexadecimal `p` or `P`, with an optional sign and one decimal digit or more
pub data IsExponent (base : Base) : List ℕ → Type 0 where
  exponent :
      (letter : ℕ) (sign : List ℕ) (first : ℕ) (digits : List ℕ) → IsTrue (begins_exponent base letter) → IsSign sign
      → IsTrue (is_ascii_digit first) → IsTrue (list_all is_ascii_digit digits) → IsExponent base (letter ∷ sign ++ first ∷ digits)

-- a decimal or hexadecimal number with a fraction, an exponent, or both
pub data IsFloat : List ℕ → Type 0 where
  with_fraction :
      (base : Base) (digits point : List ℕ) → AreDigits base digits → IsFraction base point → IsTrue (has_floats base)
      → IsFloat (digits ++ point)
  with_exponent :
      (base : Base) (digits power : List ℕ) → AreDigits base digits → IsExponent base power → IsTrue (has_floats base)
      → IsFloat (digits ++ power)
  with_both :
      (base : Base) (digits point power : List ℕ) → AreDigits base digits → IsFraction base point → IsExponent base power
      → IsTrue (has_floats base) → IsFloat (digits ++ (point ++ power))

-- ---- characters, texts and quoted texts (the manual, "Character literals" and "String literals")

-- `'`, one byte other than `'`, `\`, LF and CR, `'`; or `'\`, one of `\ " ' n t b r` or a space, three decimal digits,
-- `x` with two hexadecimal digits, or `o` with three octal digits, and `'`
pub data IsChar : List ℕ → Type 0 where
  plain : (c : ℕ) → IsFalse (among "'\\\n\r" c) → IsChar (byte "'" ∷ c ∷ byte "'" ∷ [])
  short : (c : ℕ) → IsTrue (among "\\\"'ntbr " c) → IsChar (byte "'" ∷ byte "\\" ∷ c ∷ byte "'" ∷ [])
  decimal :
      (a b c : ℕ) → IsTrue (is_ascii_digit a) → IsTrue (is_ascii_digit b) → IsTrue (is_ascii_digit c)
      → IsChar (byte "'" ∷ byte "\\" ∷ a ∷ b ∷ c ∷ byte "'" ∷ [])
  hexadecimal :
      (a b : ℕ) → IsTrue (is_ascii_hexdigit a) → IsTrue (is_ascii_hexdigit b)
      → IsChar (byte "'" ∷ byte "\\" ∷ byte "x" ∷ a ∷ b ∷ byte "'" ∷ [])
  octal :
      (a b c : ℕ) → IsTrue (is_octal_digit a) → IsTrue (is_octal_digit b) → IsTrue (is_octal_digit c)
      → IsChar (byte "'" ∷ byte "\\" ∷ byte "o" ∷ a ∷ b ∷ c ∷ byte "'" ∷ [])

-- bytes in which each `\` takes the byte after it, and no other byte is `"`
pub data IsTextBody : List ℕ → Type 0 where
  empty : IsTextBody []
  escaped : (c : ℕ) (rest : List ℕ) → IsTextBody rest → IsTextBody (byte "\\" ∷ c ∷ rest)
  plain : (c : ℕ) (rest : List ℕ) → c ≢ byte "\\" → c ≢ byte "\"" → IsTextBody rest → IsTextBody (c ∷ rest)

-- `"` up to the next `"` that no `\` takes
pub data IsTextLexeme : List ℕ → Type 0 where
  closed : (body : List ℕ) → IsTextBody body → IsTextLexeme (byte "\"" ∷ body ++ codes "\"")

-- `|`, the bytes of the opening, and `}`
abbrev pub quoted_close : List ℕ → List ℕ
quoted_close word = byte "|" ∷ word ++ codes "}"

-- bytes up to the first place where this text begins, and the text
pub data IsUpTo (close : List ℕ) : List ℕ → Type 0 where
  here : IsUpTo close close
  later : (c : ℕ) (rest : List ℕ) → IsFalse (starts_with nat_eq (c ∷ rest) close) → IsUpTo close rest → IsUpTo close (c ∷ rest)

-- `{`, bytes of `a` to `z` and `_`, `|`, up to the first `|` with the same bytes and `}`
pub data IsQuoted : List ℕ → Type 0 where
  quoted :
      (word rest : List ℕ) → IsTrue (list_all is_quoted_word_byte word) → IsUpTo (quoted_close word) rest
      → IsQuoted (byte "{" ∷ word ++ byte "|" ∷ rest)

-- ---- the table

-- the text is a lexeme of this class
abbrev pub IsOfClass : Class → List ℕ → Type 0
IsOfClass class.Lower text = IsTrue (is_lower text)
IsOfClass class.Upper text = IsTrue (is_upper text)
IsOfClass class.Keyword text = IsTrue (is_reserved_word text)
IsOfClass class.Int text = IsInt text
IsOfClass class.Float text = IsFloat text
IsOfClass class.Char text = IsChar text
IsOfClass class.Text text = IsTextLexeme text
IsOfClass class.Quoted text = IsQuoted text
IsOfClass class.TypeVar text = IsTrue (is_marked_word "'" text)
IsOfClass class.Tag text = IsTrue (is_marked_word "`" text)
IsOfClass class.Label text = IsLabel text
IsOfClass class.Prefix text = IsTrue (is_prefix text)
IsOfClass class.Infix text = IsTrue (is_infix text)
IsOfClass class.Mark text = IsTrue (is_mark text)
