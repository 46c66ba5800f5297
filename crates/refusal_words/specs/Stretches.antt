-- The stretches of tokens and bytes (own).
use Rattle.std.specs.Prelude.{ℕ, ◌+◌, ◌-◌, ◌==◌, ◌&&◌, List, [], Bool, true, false, Option, Some, None, drop, length, nat_lt, slice_get, take}
use Rattle.std.specs.Prelude.{if◌then◌else◌}
use Rattle.rotor_base.specs.declared.place.Place.{Place}
use Rattle.rotor_base.specs.declared.token.Class.{Class}
use Rattle.rotor_base.specs.declared.token.Class.TheVariants.{Label}
use Rattle.messages.specs.declared.parts.Spot.{Spot}
use Rattle.messages.specs.Spot.{spot_of}
use Rattle.ml_lexer.specs.Lexed.{Lexeme}
use Rattle.refusal_words.specs.Cut.{Cut}

-- the stretch of no source
abbrev pub no_spot : Spot
no_spot = spot_of [] [] 0 0

abbrev pub is_label : Class → Bool
is_label Label = true
is_label _ = false

abbrev pub is_colon : Option ℕ → Bool
is_colon None = false
is_colon (Some b) = b == 58

-- the last byte is a colon
abbrev pub has_colon : List ℕ → Bool
has_colon word = is_colon (slice_get word (length word - 1))

-- of a label, the word is its name alone
abbrev pub word_start : Lexeme → ℕ
word_start x = if is_label x.class && nat_lt x.start x.end then x.start + 1 else x.start

abbrev pub word_end : Lexeme → ℕ
word_end x = if is_label x.class && has_colon x.bytes then x.end - 1 else x.end

abbrev pub token_spot : Cut → Lexeme → Spot
token_spot cut x = spot_of cut.name cut.bytes (word_start x) (word_end x)

-- of a token of a source, or of the end of the source
abbrev pub found_spot : Cut → Option Lexeme → Spot
found_spot cut (Some x) = token_spot cut x
found_spot cut None = spot_of cut.name cut.bytes (length cut.bytes) (length cut.bytes)

-- of the token of this number, from 1
abbrev pub cut_spot : Cut → ℕ → Spot
cut_spot cut number = found_spot cut (slice_get cut.lexemes (number - 1))

abbrev pub spot_among : Option Cut → ℕ → Spot
spot_among (Some cut) number = cut_spot cut number
spot_among None number = no_spot

-- of a place
abbrev pub place_spot : List Cut → Place → Spot
place_spot cuts p = spot_among (slice_get cuts p.file) p.token

-- behind a byte, or behind the last one
abbrev pub behind_byte : Cut → ℕ → ℕ
behind_byte cut offset = if nat_lt offset (length cut.bytes) then offset + 1 else offset

abbrev pub byte_among : Option Cut → ℕ → Spot
byte_among (Some cut) offset = spot_of cut.name cut.bytes offset (behind_byte cut offset)
byte_among None offset = no_spot

-- of a byte of the source of this number
abbrev pub byte_spot : List Cut → ℕ → ℕ → Spot
byte_spot cuts file offset = byte_among (slice_get cuts file) offset

-- the bytes of a lexeme, if there is one
abbrev pub bytes_of : Option Lexeme → List ℕ
bytes_of (Some x) = x.bytes
bytes_of None = []

-- the bytes of the lexeme that precedes the one of this number by so many
abbrev pub word_before : List Lexeme → ℕ → ℕ → List ℕ
word_before xs number back = if nat_lt back number then bytes_of (slice_get xs (number - 1 - back)) else []

-- the word of a lexeme
abbrev pub token_word : Lexeme → List ℕ
token_word x = take (word_end x - word_start x) (drop (word_start x - x.start) x.bytes)

abbrev pub found_word : Option Lexeme → List ℕ
found_word (Some x) = token_word x
found_word None = []

abbrev pub cut_word : Cut → ℕ → List ℕ
cut_word cut number = found_word (slice_get cut.lexemes (number - 1))

abbrev pub word_among : Option Cut → ℕ → List ℕ
word_among (Some cut) number = cut_word cut number
word_among None number = []

-- the word at a place
abbrev pub word_at : List Cut → Place → List ℕ
word_at cuts p = word_among (slice_get cuts p.file) p.token
