-- The header of a message (Language Server Protocol 3.17, "Header Part").
use Rattle.std.specs.Prelude.{ℕ, ◌+◌, ◌-◌, ◌^◌, ◌==◌, ◌&&◌, nat_lt, List, [], ◌∷◌, Bool, true, false, length, take, drop, map, Option, Some, None}
use Rattle.std.specs.Prelude.{option_map, if◌then◌else◌, codes, bytes_eq, flat_map}
use Rattle.std.specs.List.{ends_with, list_all, position}
use Rattle.std.specs.Char.{is_ascii_digit, to_ascii_lowercase}
use Rattle.std.specs.Str.Parse.{digits_value}
use Rattle.lsp_frames.specs.Lines.{lines_of, trim}

-- a field of a header: its name and its value, without what is blank around them
abbrev pub Field : Type 0
Field = List ℕ × List ℕ

-- the field of a line whose CR is cut off: a colon ends its name
abbrev pub cut_field : List ℕ → Option Field
cut_field line = option_map (λ colon. (trim (take colon line), trim (drop (colon + 1) line))) (position (λ b. b == 58) line)

-- the field of a line whose LF is cut off; none if no CR ends it or it has no colon
unfoldable pub field_of : List ℕ → Option Field
field_of line = if ends_with (λ a b. a == b) line (13 ∷ []) then cut_field (take (length line - 1) line) else None

-- each line is a field
abbrev pub is_field : Option Field → Bool
is_field None = false
is_field (Some field) = true

-- the name is `Content-Length`, in any case
unfoldable pub is_length_name : List ℕ → Bool
is_length_name name = bytes_eq (map to_ascii_lowercase name) (map to_ascii_lowercase (codes "Content-Length"))

-- the value of a field `Content-Length`
abbrev pub length_texts : Option Field → List (List ℕ)
length_texts None = []
length_texts (Some field) = if is_length_name field.0 then field.1 ∷ [] else []

-- one digit or more, and nothing else, that write a number below 2 ^ 64
abbrev pub is_number : List ℕ → Bool
is_number text = nat_lt 0 (length text) && (list_all is_ascii_digit text && nat_lt (digits_value 10 text) (2 ^ 64))

-- the number that a text writes
unfoldable pub number_of : List ℕ → Option ℕ
number_of text = if is_number text then Some (digits_value 10 text) else None

-- the number that the one text writes
abbrev pub one_number : List (List ℕ) → Option ℕ
one_number [] = None
one_number (text ∷ []) = number_of text
one_number (text ∷ more ∷ texts) = None

-- each of some lines is a field
abbrev pub are_fields : List (List ℕ) → Bool
are_fields lines = list_all (λ line. is_field (field_of line)) lines

-- the values of the fields `Content-Length` of some lines, in order
abbrev pub texts_in : List (List ℕ) → List (List ℕ)
texts_in lines = flat_map (λ line. length_texts (field_of line)) lines

-- the number of some lines' one field `Content-Length`; none if a line is no field
abbrev pub length_in : List (List ℕ) → Option ℕ
length_in lines = if are_fields lines then one_number (texts_in lines) else None

-- the length that the lines of a header say, without the empty line
abbrev pub content_length : List ℕ → Option ℕ
content_length bytes = length_in (lines_of bytes)
