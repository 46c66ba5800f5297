-- What the lexer does not read (own).
use Rattle.std.specs.Prelude.{ℕ, List, [], ◌∷◌, ◌==◌, ◌&&◌, ◌||◌, Bool, codes, length, nat_le, take, if◌then◌else◌}
use Rattle.std.specs.Char.{is_ascii_digit}
use Rattle.std.specs.Str.{bytes_eq}
use Rattle.refusal_words.specs.declared.faults.LexFault.{LexFault}
use Rattle.refusal_words.specs.declared.faults.LexFault.TheVariants as fault

-- some bytes begin with a text
abbrev pub begins : List ℕ → List ℕ → Bool
begins bytes text = nat_le (length text) (length bytes) && bytes_eq (take (length text) bytes) text

abbrev pub byte_fault : ℕ → LexFault
byte_fault b =
    if nat_le 0x80 b then fault.OutsideAscii
    else (if is_ascii_digit b then fault.Number
    else (if b == 126 || b == 63 then fault.Label
    else (if b == 39 then fault.Quote
    else fault.Other)))

abbrev pub first_fault : List ℕ → LexFault
first_fault [] = fault.Other
first_fault (b ∷ bs) = byte_fault b

-- what begins where the lexer stops
abbrev pub rest_fault : ℕ → List ℕ → LexFault
rest_fault offset rest =
    if begins rest (codes "(*") then fault.Comment
    else (if begins rest (codes "[@") then fault.Attribute
    else (if begins rest (codes "\"") then fault.String
    else (if begins rest (codes "{") then fault.QuotedString
    else (if offset == 0 && begins rest (0xef ∷ 0xbb ∷ 0xbf ∷ []) then fault.ByteOrderMark
    else first_fault rest))))
