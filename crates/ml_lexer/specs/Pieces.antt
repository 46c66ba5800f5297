-- The pieces of a file: which lexeme or trivia begins here, the longest, with the rules on ties (the OCaml manual,
-- "Lexical conventions").
use Rattle.std.specs.Prelude.{ℕ, ◌+◌, List, Bool, true, false, ◌||◌, ◌&&◌, nat_lt, ◌<◌, ◌≤◌, length, codes, take, drop, slice_index, Option, Some}
use Rattle.std.specs.Prelude.{None, if◌then◌else◌}
use Rattle.std.specs.Char.{is_ascii_digit, is_ascii_uppercase}
use Rattle.std.specs.Str.{bytes_eq}
use Rattle.rotor_base.specs.Limits.{max_name_bytes}
use Prim.Native.String.{String}
use Rattle.rotor_base.specs.Name.{is_value_name}
use Rattle.rotor_base.specs.declared.token.Class.{Class}
use Rattle.rotor_base.specs.declared.token.Class.TheVariants as class
use Rattle.ml_lexer.specs.declared.piece.Piece.{Piece}
use Rattle.ml_lexer.specs.declared.piece.Piece.TheVariants as piece
use Rattle.ml_lexer.specs.Bytes.{among, is_at, is_word_start, word_length, operator_length}
use Rattle.ml_lexer.specs.Numbers.{number_at}
use Rattle.ml_lexer.specs.Quotes.{char_length, text_length, opens_quoted, quoted_length}
use Rattle.ml_lexer.specs.Trivia.{opens_comment, comment_length, attribute_length}

-- a trivia that ends, and a lexeme that ends; if they do not, Bad
abbrev pub trivia : Option ℕ → Piece
trivia (Some n) = piece.Trivia n
trivia None = piece.Bad

abbrev pub ended : Class → Option ℕ → Piece
ended kind (Some n) = piece.Lexeme kind n
ended kind None = piece.Bad

-- Upper, Lower, or a keyword or `_`: among the words of identifier characters, of at most 255 bytes, that begin with
-- a lower-case letter or `_`, those that are no value names are the keywords and `_`
unfoldable pub word_class : List ℕ → Class
word_class word =
    if is_ascii_uppercase (slice_index word 0) then class.Upper else
    if is_value_name word then class.Lower else
    class.Keyword

-- a word has at most 255 bytes
abbrev pub is_long : ℕ → Bool
is_long n = nat_lt max_name_bytes n

unfoldable pub word_at : List ℕ → Piece
word_at bytes =
    let n = word_length bytes in
    if is_long n then piece.LongName else piece.Lexeme (word_class (take n bytes)) n

-- a `'` or a backquote and a word
unfoldable pub marked_word_at : Class → List ℕ → Piece
marked_word_at kind bytes =
    let n = word_length (drop 1 bytes) in
    if is_word_start (slice_index bytes 1)
    then if is_long n then piece.LongName else piece.Lexeme kind (1 + n)
    else piece.Bad

abbrev pub is_keyword_class : Class → Bool
is_keyword_class class.Keyword = true
is_keyword_class _ = false

-- a `~` or `?` and a word, and a `:` that follows directly; if the word is a keyword or `_`, Bad
unfoldable pub label_at : List ℕ → Piece
label_at bytes =
    let n = word_length (drop 1 bytes) in
    let colon = if is_at ":" (1 + n) bytes then 1 else 0 in
    if is_long n then piece.LongName else
    if is_keyword_class (word_class (take n (drop 1 bytes))) then piece.Bad else
    piece.Lexeme class.Label (1 + n + colon)

-- this text
abbrev pub is_text : String → List ℕ → Bool
is_text text word = bytes_eq word (codes text)

-- the operators that are Marks
abbrev pub is_mark_operator : List ℕ → Bool
is_mark_operator word =
    is_text "|" word || is_text "=" word || is_text "->" word || is_text "<-" word || is_text "~" word || is_text "?" word

-- a `#` or an operator character, with all operator characters that follow: a Mark on a tie, `!=` an Infix, else a
-- Prefix by its first character, or an Infix
unfoldable pub operator_of : List ℕ → Class
operator_of word =
    if is_mark_operator word then class.Mark else
    if is_text "!=" word then class.Infix else
    if among "!~?" (slice_index word 0) then class.Prefix else
    class.Infix

unfoldable pub operator_at : List ℕ → Piece
operator_at bytes =
    let n = 1 + operator_length (drop 1 bytes) in
    piece.Lexeme (operator_of (take n bytes)) n

-- the Marks that are not runs of operator characters, the longest first
unfoldable pub mark_length : List ℕ → ℕ
mark_length bytes =
    if is_at "[" 0 bytes && is_at "%" 1 bytes && is_at "%" 2 bytes then 3 else
    if is_at "[" 0 bytes && among "|<>%" (slice_index bytes 1) then 2 else
    if is_at "{" 0 bytes && is_at "%" 1 bytes then 2 else
    if is_at "|" 0 bytes && is_at "]" 1 bytes then 2 else
    if is_at ";" 0 bytes && is_at ";" 1 bytes then 2 else
    if is_at "." 0 bytes && is_at "." 1 bytes then 2 else
    if is_at ":" 0 bytes && among ":=>" (slice_index bytes 1) then 2 else
    if among "()[]{};,.:" (slice_index bytes 0) then 1 else
    0

-- a Mark, or nothing begins here
abbrev pub mark_of : ℕ → Piece
mark_of n = if nat_lt 0 n then piece.Lexeme class.Mark n else piece.Bad

-- what begins with `'`: a Char; if no Char begins, a TypeVar
abbrev pub char_or_variable : Option ℕ → List ℕ → Piece
char_or_variable (Some n) bytes = piece.Lexeme class.Char n
char_or_variable None bytes = marked_word_at class.TypeVar bytes

-- a `~` or `?`, directly before a word
unfoldable pub begins_label : List ℕ → Bool
begins_label bytes = among "~?" (slice_index bytes 0) && is_word_start (slice_index bytes 1)

-- an operator character, but `.` and `:`, or a `#`
unfoldable pub begins_operator : List ℕ → Bool
begins_operator bytes = among "#!$%&*+-/<=>?@^|~" (slice_index bytes 0)

-- a Mark, Prefix or Infix
unfoldable pub sign_at : List ℕ → Piece
sign_at bytes =
    if nat_lt 1 (mark_length bytes) then piece.Lexeme class.Mark (mark_length bytes) else
    if begins_operator bytes then operator_at bytes else
    mark_of (mark_length bytes)

-- the lexeme that begins here
unfoldable pub lexeme_at : List ℕ → Piece
lexeme_at bytes =
    if is_word_start (slice_index bytes 0) then word_at bytes else
    if is_ascii_digit (slice_index bytes 0) then number_at bytes else
    if is_at "\"" 0 bytes then ended class.Text (text_length bytes) else
    if opens_quoted bytes then ended class.Quoted (quoted_length bytes) else
    if is_at "'" 0 bytes then char_or_variable (char_length bytes) bytes else
    if is_at "`" 0 bytes then marked_word_at class.Tag bytes else
    if begins_label bytes then label_at bytes else
    sign_at bytes

-- the lexeme or trivia that begins here
unfoldable pub piece_at : List ℕ → Piece
piece_at bytes =
    if among " \t\n\r\u{c}" (slice_index bytes 0) then piece.Trivia 1 else
    if opens_comment bytes then trivia (comment_length bytes) else
    if is_at "[" 0 bytes && is_at "@" 1 bytes then trivia (attribute_length bytes) else
    lexeme_at bytes

-- the piece takes a byte or more, and no more than there are
abbrev pub Within : Piece → List ℕ → Type 0
Within (piece.Trivia n) bytes = (0 < n) × (n ≤ length bytes)
Within (piece.Lexeme kind n) bytes = (0 < n) × (n ≤ length bytes)
Within piece.Bad bytes = Unit {0}
Within piece.LongName bytes = Unit {0}
