-- What begins at the front of a text: a line end, a character, or a byte that begins none
-- (Unicode, "UTF-8" and "UTF-16"; Language Server Protocol 3.17, "Position").
use Rattle.std.specs.Prelude.{ℕ, suc, ◌+◌, ◌==◌, List, [], ◌∷◌, Bool, true, false, take, if◌then◌else◌}
use Rattle.std.specs.Str.{is_utf8}
use Rattle.text_places.specs.declared.counting.Counting.{Counting}
use Rattle.text_places.specs.declared.counting.Counting.TheVariants.{People, Utf16, Utf8}
use Rattle.text_places.specs.declared.counting.Position.{Position}
use Rattle.text_places.specs.declared.front.Front.{Front}

-- the position of the first byte
abbrev pub origin_of : Counting → Position
origin_of People = record { line = 1; column = 1 }
origin_of Utf16 = record { line = 0; column = 0 }
origin_of Utf8 = record { line = 0; column = 0 }

-- the number of bytes of the character at the front: the least, from one to four, that are a text in UTF-8; where none
-- are, one byte is for itself
abbrev pub char_len : List ℕ → ℕ
char_len bs =
    if is_utf8 (take 1 bs) then 1 else
    if is_utf8 (take 2 bs) then 2 else
    if is_utf8 (take 3 bs) then 3 else
    if is_utf8 (take 4 bs) then 4 else 1

-- the columns of a character of so many bytes: its bytes, or its UTF-16 units
abbrev pub columns_of : Counting → ℕ → ℕ
columns_of Utf16 len = if len == 4 then 2 else 1
columns_of Utf8 len = len
columns_of People len = len

-- a line end of so many bytes, and a character of so many
abbrev pub line_end : ℕ → Front
line_end len = record { len = len; columns = 0; ends_line = true }

abbrev pub character : Counting → ℕ → Front
character counting len = record { len = len; columns = columns_of counting len; ends_line = false }

-- the first byte is LF
abbrev pub begins_with_feed : List ℕ → Bool
begins_with_feed [] = false
begins_with_feed (b ∷ bs) = b == 10

-- what begins at the front by the protocol: LF, CR LF or CR ends a line
abbrev pub protocol_front : Counting → ℕ → List ℕ → Front
protocol_front counting b bs =
    if b == 10 then line_end 1 else
    if b == 13 then (if begins_with_feed bs then line_end 2 else line_end 1) else
    character counting (char_len (b ∷ bs))

-- what begins at the front; nothing at the end of the text
abbrev pub front_of : Counting → List ℕ → Front
front_of counting [] = line_end 0
front_of People (b ∷ bs) = if b == 10 then line_end 1 else character People 1
front_of Utf16 (b ∷ bs) = protocol_front Utf16 b bs
front_of Utf8 (b ∷ bs) = protocol_front Utf8 b bs

-- the position behind the front
abbrev pub behind : Counting → Position → Front → Position
behind counting here front =
    if front.ends_line then record { line = suc here.line; column = (origin_of counting).column }
    else record { line = here.line; column = here.column + front.columns }
