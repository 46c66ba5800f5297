-- The numbers (the OCaml manual, "Integer literals" and "Floating-point literals").
use Rattle.std.specs.Prelude.{ℕ, ◌+◌, List, Bool, true, false, ◌==◌, ◌||◌, ◌&&◌, nat_lt, drop, slice_index, if◌then◌else◌}
use Rattle.std.specs.Char.{is_ascii_digit, is_ascii_hexdigit}
use Rattle.std.specs.List.{prefix_len}
use Rattle.std.specs.Str.{byte}
use Prim.Native.String.{String}
use Rattle.rotor_base.specs.Name.{is_identifier_byte}
use Rattle.rotor_base.specs.declared.token.Class.{Class}
use Rattle.rotor_base.specs.declared.token.Class.TheVariants as class
use Rattle.ml_lexer.specs.declared.number.Base.{Base}
use Rattle.ml_lexer.specs.declared.number.Base.TheVariants.{Binary, Octal, Decimal, Hexadecimal}
use Rattle.ml_lexer.specs.declared.piece.Piece.{Piece}
use Rattle.ml_lexer.specs.declared.piece.Piece.TheVariants as piece
use Rattle.ml_lexer.specs.Bytes.{among, is_at}

abbrev pub is_digit_of : Base → ℕ → Bool
is_digit_of Binary c = among "01" c
is_digit_of Octal c = among "01234567" c
is_digit_of Decimal c = is_ascii_digit c
is_digit_of Hexadecimal c = is_ascii_hexdigit c

-- digits and `_`
unfoldable pub digits_length : Base → List ℕ → ℕ
digits_length base bytes = prefix_len (λ c. is_digit_of base c || c == byte "_") bytes

-- `0x`, `0o` or `0b` with a digit of that base; the letter may be of either case
abbrev pub has_head : String → Base → List ℕ → Bool
has_head letters base bytes = is_at "0" 0 bytes && among letters (slice_index bytes 1) && is_digit_of base (slice_index bytes 2)

unfoldable pub base_of : List ℕ → Base
base_of bytes =
    if has_head "xX" Hexadecimal bytes then Hexadecimal else
    if has_head "oO" Octal bytes then Octal else
    if has_head "bB" Binary bytes then Binary else
    Decimal

-- the bytes up to the first digit, with it
abbrev pub head_length : Base → ℕ
head_length Decimal = 1
head_length _ = 3

-- `.` with digits and `_`, none or more
unfoldable pub fraction_length : Base → List ℕ → ℕ
fraction_length base bytes = if is_at "." 0 bytes then 1 + digits_length base (drop 1 bytes) else 0

-- `e` (`p` in hexadecimal), of either case
abbrev pub begins_exponent : Base → ℕ → Bool
begins_exponent Decimal c = among "eE" c
begins_exponent Hexadecimal c = among "pP" c
begins_exponent _ c = false

-- the letter with an optional sign
abbrev pub sign_end : List ℕ → ℕ
sign_end bytes = if among "+-" (slice_index bytes 1) then 2 else 1

-- an exponent: the letter, an optional sign and one decimal digit or more; if there is none, 0
unfoldable pub exponent_length : Base → List ℕ → ℕ
exponent_length base bytes =
    let sign = sign_end bytes in
    let digits = prefix_len is_ascii_digit (drop sign bytes) in
    if begins_exponent base (slice_index bytes 0) && nat_lt 0 digits then sign + digits else 0

-- numbers of these bases may be Floats
abbrev pub has_floats : Base → Bool
has_floats Decimal = true
has_floats Hexadecimal = true
has_floats _ = false

-- a fraction, or an exponent, or both; if there is neither, 0
unfoldable pub float_part_length : Base → List ℕ → ℕ
float_part_length base bytes =
    let fraction = fraction_length base bytes in
    if has_floats base then fraction + exponent_length base (drop fraction bytes) else 0

-- at most one of `l`, `L`, `n`
abbrev pub suffix_length : List ℕ → ℕ
suffix_length bytes = if among "lLn" (slice_index bytes 0) then 1 else 0

-- a number that an identifier character follows directly is Bad
abbrev pub unless_identifier_follows : Class → ℕ → List ℕ → Piece
unless_identifier_follows kind n bytes =
    if is_identifier_byte (slice_index bytes n) then piece.Bad else piece.Lexeme kind n

-- the number that begins here
unfoldable pub number_at : List ℕ → Piece
number_at bytes =
    let base = base_of bytes in
    let head = head_length base in
    let n = head + digits_length base (drop head bytes) in
    let more = float_part_length base (drop n bytes) in
    if nat_lt 0 more
    then unless_identifier_follows class.Float (n + more) bytes
    else unless_identifier_follows class.Int (n + suffix_length (drop n bytes)) bytes
