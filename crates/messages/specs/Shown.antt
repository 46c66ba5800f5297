-- What a terminal shows of bytes (own; the characters are those of Unicode).
use Rattle.std.specs.Prelude.{ℕ, ◌==◌, ◌||◌, ◌&&◌, not, List, ◌++◌, Bool, map, take, length, codes, nat_le, cond}
use Rattle.std.specs.Int.{is_in_range}
use Rattle.std.specs.Str.{chars, encode_utf8_all}
use Rattle.std.specs.Str.Lossy.{utf8_lossy}
use Rattle.report.specs.Pieces.{Word, join}

-- the characters of some bytes; bytes that are no UTF-8 are U+FFFD in them
abbrev pub characters_of : Word → List ℕ
characters_of bytes = chars (utf8_lossy bytes)

-- a terminal must not get the character: a control character but the tab, a direction mark, or U+FFFD
abbrev pub hides : ℕ → Bool
hides c =
    not (c == 9) && (is_in_range 0x0 0x1f c || is_in_range 0x7f 0x9f c || is_in_range 0x200e 0x200f c || is_in_range 0x202a 0x202e c
    || is_in_range 0x2066 0x2069 c || c == 0xfeff || c == 0xfffd)

-- what a terminal gets for a character: itself, or `?`
abbrev pub safe : ℕ → ℕ
safe c = cond (hides c) 63 c

-- the bytes that a terminal gets for some characters
abbrev pub safe_bytes : List ℕ → Word
safe_bytes cs = encode_utf8_all (map safe cs)

-- the bytes that a terminal gets for some bytes
abbrev pub shown_of : Word → Word
shown_of bytes = safe_bytes (characters_of bytes)

-- of a word of the command line: at most 60 characters
abbrev pub shown_characters : List ℕ → Word
shown_characters cs = cond (nat_le (length cs) 60) (safe_bytes cs) (safe_bytes (take 57 cs) ++ codes "...")

abbrev pub shown_word_of : Word → Word
shown_word_of word = shown_characters (characters_of word)
