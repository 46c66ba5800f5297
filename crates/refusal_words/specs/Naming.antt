-- The sentences of new names that are refused (own; the OCaml manual, "Lexical conventions").
use Rattle.std.specs.Prelude.{ℕ, List, [], ◌∷◌, ◌&&◌, Bool, false, None, codes, length, nat_lt, if◌then◌else◌}
use Rattle.std.specs.Char.{is_ascii_lowercase, is_ascii_uppercase}
use Rattle.std.specs.List.{list_all}
use Rattle.std.specs.Str.{bytes_eq}
use Rattle.report.specs.Pieces.{Word}
use Rattle.rotor_base.specs.Limits.{max_name_bytes}
use Rattle.rotor_base.specs.Name.{is_identifier_byte}
use Rattle.messages.specs.declared.kinds.Kind.TheVariants as kind
use Rattle.messages.specs.declared.parts.Message.{Message}
use Rattle.messages.specs.Shown.{shown_word_of}
use Rattle.refusal_words.specs.Parts.{around, bare}

abbrev pub begins_high : List ℕ → Bool
begins_high [] = false
begins_high (b ∷ bs) = is_ascii_uppercase b

abbrev pub begins_low : List ℕ → Bool
begins_low [] = false
begins_low (b ∷ bs) = is_ascii_lowercase b

-- a word that looks like a value name, and is none, is a keyword
abbrev pub letters_text : Word → Word
letters_text name =
    if begins_high name then codes "` begins with an upper-case letter, as constructors and modules do"
    else (if begins_low name && list_all is_identifier_byte name then codes "` is a keyword"
    else codes "` is no value name: a lower-case letter or `_`, then letters, digits, `_` and `'`, all ASCII")

abbrev pub word_text : Word → Word
word_text name = around (codes "`") (shown_word_of name) (letters_text name)

-- of a name that is not empty
abbrev pub filled_text : Word → Word
filled_text name =
    if nat_lt max_name_bytes (length name) then codes "the new name has more than 255 bytes"
    else (if bytes_eq name (codes "_") then codes "`_` alone is no name" else word_text name)

abbrev pub name_text : Word → Word
name_text [] = codes "the new name is empty"
name_text (b ∷ bs) = filled_text (b ∷ bs)

abbrev pub bad_name : Word → Message
bad_name name = bare kind.BadName (name_text name) None

abbrev pub same_name : Word → Message
same_name name = bare kind.SameName (around (codes "its name is `") (shown_word_of name) (codes "` already")) None
