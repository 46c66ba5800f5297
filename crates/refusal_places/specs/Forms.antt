-- Forms that are not read, by the lexemes where a reading stops (own).
use Rattle.std.specs.Prelude.{ℕ, ◌+◌, ◌-◌, ◌==◌, ◌&&◌, List, [], Option, Some, None, bytes_eq, codes, length, nat_le, nat_lt, slice_get}
use Rattle.std.specs.Prelude.{if◌then◌else◌}
use Rattle.report.specs.Pieces.{Word}
use Rattle.ml_lexer.specs.Lexed.{Lexeme}
use Rattle.refusal_words.specs.Stretches.{bytes_of}

-- the form that a word shows, between the word before it and the next one
abbrev pub form_of : Word → Word → Word → Option Word
form_of before word next =
    if bytes_eq before (codes "let") && bytes_eq word (codes "exception") then Some (codes "`let exception`")
    else if bytes_eq word (codes "->") && bytes_eq next (codes ".") then Some (codes "a refutation case, `-> .`")
    else if bytes_eq word (codes ".{") then Some (codes "`.{`")
    else if bytes_eq word (codes ".") && bytes_eq next (codes "{") then Some (codes "`.{`")
    else if bytes_eq word (codes "open") && bytes_eq next (codes "(") then Some (codes "`open` of anything but a module path")
    else if bytes_eq word (codes ":=") then Some (codes "`module X := M` in a signature, if this is one")
    else None

-- the bytes of the lexeme at a place, from 0, if there is one
abbrev pub word_in : List Lexeme → ℕ → Word
word_in xs at = bytes_of (slice_get xs at)

-- those of the lexeme before a place
abbrev pub word_behind : List Lexeme → ℕ → Word
word_behind xs at = if at == 0 then [] else word_in xs (at - 1)

-- the form that the lexeme at a place shows, if it is one of those from the front on
abbrev pub form_at : List Lexeme → ℕ → ℕ → Option Word
form_at xs front at =
    if nat_le front at && nat_lt at (length xs) then form_of (word_behind xs at) (word_in xs at) (word_in xs (at + 1)) else None

abbrev pub or_form : Option Word → Option Word → Option Word
or_form (Some form) other = Some form
or_form None other = other

-- the first form of the lexemes from two before a place to the one behind it
abbrev pub form_near : List Lexeme → ℕ → ℕ → Option Word
form_near xs front stop =
    or_form (form_at xs front (stop - 2)) (or_form (form_at xs front (stop - 1)) (or_form (form_at xs front stop) (form_at xs front (stop + 1))))
