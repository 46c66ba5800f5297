-- The characters of the language, at places of a list of bytes (the OCaml manual, "Lexical conventions").
use Rattle.std.specs.Prelude.{ℕ, ◌+◌, List, drop, Bool, ◌==◌, ◌||◌, slice_index, codes}
use Rattle.std.specs.Char.{is_ascii_alphabetic, is_ascii_lowercase}
use Rattle.std.specs.List.{list_any, prefix_len}
use Rattle.std.specs.Str.{byte}
use Rattle.rotor_base.specs.Name.{is_identifier_byte}
use Prim.Native.String.{String}

-- one of these characters
abbrev pub among : String → ℕ → Bool
among characters c = list_any (λ x. x == c) (codes characters)

-- the byte at a place is this one; a place past the end counts as the byte 0
abbrev pub is_at : String → ℕ → List ℕ → Bool
is_at character i bytes = slice_index bytes i == byte character

-- a word begins with a letter or `_`
abbrev pub is_word_start : ℕ → Bool
is_word_start c = is_ascii_alphabetic c || c == byte "_"

abbrev pub is_operator_byte : ℕ → Bool
is_operator_byte c = among "!$%&*+-./:<=>?@^|~" c

-- the bytes between the `{` and the `|` of a Quoted
abbrev pub is_quoted_word_byte : ℕ → Bool
is_quoted_word_byte c = is_ascii_lowercase c || c == byte "_"

-- all identifier characters that follow
abbrev pub identifier_length : List ℕ → ℕ
identifier_length bytes = prefix_len is_identifier_byte bytes

-- a word: its first byte and all identifier characters that follow
abbrev pub word_length : List ℕ → ℕ
word_length bytes = 1 + identifier_length (drop 1 bytes)

-- all operator characters that follow
abbrev pub operator_length : List ℕ → ℕ
operator_length bytes = prefix_len is_operator_byte bytes
