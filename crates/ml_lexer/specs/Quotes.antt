-- Characters, texts and quoted texts (the OCaml manual, "Character literals" and "String literals").
use Rattle.std.specs.Prelude.{ℕ, ◌+◌, List, [], ◌∷◌, Bool, true, false, ◌==◌, ◌&&◌, not, nat_eq, length, drop, take, slice_index, Option, Some, None}
use Rattle.std.specs.Prelude.{if◌then◌else◌}
use Rattle.std.specs.Char.{is_ascii_digit, is_ascii_hexdigit}
use Rattle.std.specs.List.{prefix_len, starts_with}
use Rattle.std.specs.Str.{byte}
use Prim.Native.String.{String}
use Rattle.ml_lexer.specs.Bytes.{among, is_at, is_quoted_word_byte}

abbrev pub is_octal_digit : ℕ → Bool
is_octal_digit c = among "01234567" c

-- each test passes at its byte, the first at this place
abbrev pub fit : List (ℕ → Bool) → ℕ → List ℕ → Bool
fit [] i bytes = true
fit (test ∷ tests) i bytes = test (slice_index bytes i) && fit tests (i + 1) bytes

abbrev pub is : String → ℕ → Bool
is character c = c == byte character

-- the forms of a Char: one byte; and behind a `\`, one of `\ " ' n t b r` or a space, three decimal digits, `x` with
-- two hexadecimal digits, or `o` with three octal digits
abbrev pub plain_char : List (ℕ → Bool)
plain_char = is "'" ∷ (λ c. not (among "'\\\n\r" c)) ∷ is "'" ∷ []

abbrev pub short_escape : List (ℕ → Bool)
short_escape = is "'" ∷ is "\\" ∷ among "\\\"'ntbr " ∷ is "'" ∷ []

abbrev pub decimal_escape : List (ℕ → Bool)
decimal_escape = is "'" ∷ is "\\" ∷ is_ascii_digit ∷ is_ascii_digit ∷ is_ascii_digit ∷ is "'" ∷ []

abbrev pub hexadecimal_escape : List (ℕ → Bool)
hexadecimal_escape = is "'" ∷ is "\\" ∷ is "x" ∷ is_ascii_hexdigit ∷ is_ascii_hexdigit ∷ is "'" ∷ []

abbrev pub octal_escape : List (ℕ → Bool)
octal_escape = is "'" ∷ is "\\" ∷ is "o" ∷ is_octal_digit ∷ is_octal_digit ∷ is_octal_digit ∷ is "'" ∷ []

-- the length of the Char that begins here, if one begins
unfoldable pub char_length : List ℕ → Option ℕ
char_length bytes =
    if fit plain_char 0 bytes then Some 3 else
    if fit short_escape 0 bytes then Some 4 else
    if fit decimal_escape 0 bytes then Some 6 else
    if fit hexadecimal_escape 0 bytes then Some 6 else
    if fit octal_escape 0 bytes then Some 7 else
    None

-- where a Text that has run for `n` bytes ends: behind the next `"` that no `\` takes
unfoldable pub text_end : ℕ → Bool → List ℕ → Option ℕ
text_end n taken [] = None
text_end n true (c ∷ bytes) = text_end (n + 1) false bytes
text_end n false (c ∷ bytes) = if c == byte "\"" then Some (n + 1) else text_end (n + 1) (c == byte "\\") bytes

-- the length of the Text that begins here, if it ends
abbrev pub text_length : List ℕ → Option ℕ
text_length bytes = text_end 1 false (drop 1 bytes)

-- the bytes between `{` and `|`
abbrev pub quoted_word_length : List ℕ → ℕ
quoted_word_length bytes = prefix_len is_quoted_word_byte (drop 1 bytes)

-- `{`, bytes of `a` to `z` and `_`, `|`
unfoldable pub opens_quoted : List ℕ → Bool
opens_quoted bytes = is_at "{" 0 bytes && is_at "|" (1 + quoted_word_length bytes) bytes

-- `|`, the word, `}`
unfoldable pub closes_quoted : List ℕ → List ℕ → Bool
closes_quoted word bytes = is_at "|" 0 bytes && starts_with nat_eq (drop 1 bytes) word && is_at "}" (1 + length word) bytes

-- where a Quoted of this word that has run for `n` bytes ends
unfoldable pub quoted_end : List ℕ → ℕ → List ℕ → Option ℕ
quoted_end word n [] = None
quoted_end word n (c ∷ bytes) = if closes_quoted word (c ∷ bytes) then Some (n + length word + 2) else quoted_end word (n + 1) bytes

-- the length of the Quoted that begins here, if it ends
unfoldable pub quoted_length : List ℕ → Option ℕ
quoted_length bytes =
    let n = quoted_word_length bytes in
    quoted_end (take n (drop 1 bytes)) (n + 2) (drop (n + 2) bytes)
