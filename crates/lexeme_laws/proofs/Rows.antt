-- Rows: texts that are lexemes of the table, and texts that are none.
use Rattle.std.proofs.Common.{◌≡◌, [], false, None, refl, arith}
use Rattle.std.specs.Prelude.{codes}
use Prim.Native.String.{String}
use Rattle.rotor_base.specs.Name.{is_keyword_word}
use Rattle.rotor_base.specs.declared.token.Class.{Class}
use Rattle.rotor_base.specs.declared.token.Class.TheVariants.{Lower, Upper, Keyword, Int, Float, Char, Text, Quoted, TypeVar, Tag, Label, Prefix}
use Rattle.rotor_base.specs.declared.token.Class.TheVariants.{Infix, Mark}
use Rattle.ml_lexer.specs.declared.number.Base.TheVariants.{Decimal, Hexadecimal}
use Rattle.ml_lexer.specs.Quotes.{char_length, opens_quoted}
use Rattle.lexeme_laws.specs.Table.{AreDigits, IsSuffix, IsInt, IsFraction, IsSign, IsExponent, IsFloat, IsChar, IsTextBody, IsTextLexeme, IsUpTo}
use Rattle.lexeme_laws.specs.Table.{IsQuoted, IsLabel, IsOfClass, is_lower, is_upper, is_prefix, is_infix, is_mark}
use Rattle.lexeme_laws.specs.Begins.{Begins, IsReservedLabel, IsBadAt}
use Rattle.lexeme_laws.specs.Trivia.{CommentEnds, AttributeEnds, TriviaEnds}
use Rattle.lexeme_laws.proofs.WordSound.{no_char_begins}

abbrev Is : Class → String → Type 0
Is class text = IsOfClass class (codes text)

words : Is Lower "a'1" × Is Lower "_a" × Is Upper "Ab_" × Is Keyword "let" × Is Keyword "_" × Is TypeVar "'a" × Is Tag "`A"
unfolding is_keyword_word
words = (refl, refl, refl, refl, refl, refl, refl)

no_words : (is_lower (codes "let") ≡ false) × (is_lower (codes "_") ≡ false) × (is_lower (codes "A") ≡ false) × (is_upper (codes "a") ≡ false)
unfolding is_keyword_word
no_words = (refl, refl, refl, refl)

labels : Is Label "~f:" × Is Label "?f" × IsReservedLabel (codes "~let")
unfolding is_keyword_word
labels = (IsLabel.with_colon (codes "~f") refl, IsLabel.without_colon (codes "?f") refl, IsReservedLabel.without_colon 126 (codes "let") refl)

signs : Is Infix "!=" × Is Prefix "!==" × Is Prefix "!" × Is Prefix "~-" × Is Infix "->" × Is Mark "->" × Is Infix "-->" × Is Infix "|" × Is Mark
    "|" × Is Infix "||" × Is Mark "[%%" × Is Mark "[%" × Is Infix "#" × Is Infix "#="
signs = (refl, refl, refl, refl, refl, refl, refl, refl, refl, refl, refl, refl, refl, refl)

no_signs : (is_prefix (codes "!=") ≡ false) × (is_infix (codes "!==") ≡ false) × (is_prefix (codes "~") ≡ false) × (is_mark (codes "||") ≡ false)
    × (is_mark (codes "-->") ≡ false) × (is_infix (codes "~-") ≡ false)
no_signs = (refl, refl, refl, refl, refl, refl)

one : AreDigits Decimal (codes "1")
one = AreDigits.decimal 49 [] refl refl

point : Is Float "1."
point = IsFloat.with_fraction Decimal (codes "1") (codes ".") one (IsFraction.fraction [] refl) refl

numbers : Is Int "1_0l" × Is Float "0x1p3" × Is Float "1e+5"
numbers = (
  IsInt.int Decimal (codes "1_0") (codes "l") (AreDigits.decimal 49 (codes "_0") refl refl) (IsSuffix.one 108 refl),
  IsFloat.with_exponent Hexadecimal (codes "0x1") (codes "p3") (AreDigits.based Hexadecimal 120 49 [] refl refl refl)
      (IsExponent.exponent 112 [] 51 [] refl IsSign.none refl refl) refl,
  IsFloat.with_exponent Decimal (codes "1") (codes "e+5") one (IsExponent.exponent 101 (codes "+") 53 [] refl (IsSign.one 43 refl) refl refl) refl,
)

-- the Float at the front of `1.e` is Bad
number_before_letter : Begins Float 2 (codes "1.e") × IsBadAt Float 2 (codes "1.e")
number_before_letter = ((omega arith, point, tt), refl)

quotes : Is Char "'a'" × Is Text "\"a\\\"\"" × Is Quoted "{a|x|a}"
quotes = (
  IsChar.plain 97 refl,
  IsTextLexeme.closed (codes "a\\\"")
      (IsTextBody.plain 97 (codes "\\\"") (λ e. absurd (omega (arith, e))) (λ e. absurd (omega (arith, e)))
      (IsTextBody.escaped 34 [] IsTextBody.empty)),
  IsQuoted.quoted (codes "a") (codes "x|a}") refl (IsUpTo.later 120 (codes "|a}") refl IsUpTo.here),
)

no_char : (char_length (codes "'a") ≡ None) × (char_length (codes ")*)") ≡ None) × (char_length (codes "b]") ≡ None)
unfolding char_length
no_char = (refl, refl, refl)

type_variable : Begins TypeVar 2 (codes "'a")
type_variable = (omega arith, refl, (refl, no_char_begins (codes "'a") no_char.0))

no_quoted : (opens_quoted (codes ")*)") ≡ false) × (opens_quoted (codes "b]") ≡ false)
unfolding opens_quoted
no_quoted = (refl, refl)

-- `(*)` opens a comment
comment : TriviaEnds (codes "(*)*)") []
comment = TriviaEnds.comment (codes ")*)") []
    (CommentEnds.plain 41 (codes "*)") [] refl refl
    (record { no_text = refl; no_quoted = no_quoted.0; no_char = no_char_begins (codes ")*)") no_char.1 }) (CommentEnds.closed []))

attribute : TriviaEnds (codes "[@b]") []
attribute = TriviaEnds.attribute (codes "b]") []
    (AttributeEnds.plain 98 (codes "]") [] refl refl
    (record { no_text = refl; no_quoted = no_quoted.1; no_char = no_char_begins (codes "b]") no_char.2 }) (AttributeEnds.closed []))
