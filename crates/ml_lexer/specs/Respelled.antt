-- Lexemes that are respelled: the bytes and the lexemes after it (own).
use Rattle.std.specs.Prelude.{◌≡◌, ℕ, suc, ◌+◌, ◌-◌, List, [], ◌∷◌, ◌++◌, ◌⊎◌, IsTrue, Option, Some, None, codes, length, map, take, drop}
use Rattle.std.specs.Prelude.{slice_index}
use Rattle.std.specs.Str.{byte}
use Rattle.rotor_base.specs.Name.{is_value_name}
use Rattle.rotor_base.specs.declared.token.Class.TheVariants as class
use Rattle.ml_lexer.specs.Lexed.{Lexeme, Lexed}

-- the lexeme is directly after a byte `{` and directly before a byte `|`
abbrev pub StandsInBraces : List ℕ → Lexeme → Type 0
StandsInBraces bytes old = (before : ℕ) × (old.start ≡ suc before) × (slice_index bytes before ≡ byte "{") × (slice_index bytes old.end ≡ byte "|")

-- a lexeme keeps its bytes, or it is a Lower, its word becomes a value name, and it is not between such bytes
abbrev pub MayBecome : List ℕ → Lexeme → List ℕ → Type 0
MayBecome bytes old word = (word ≡ old.bytes) ⊎ ((old.class ≡ class.Lower) × IsTrue (is_value_name word) × (StandsInBraces bytes old → ⊥))

-- there is one word for each lexeme, and each lexeme may become its word
abbrev pub AllMayBecome : List ℕ → List Lexeme → List (List ℕ) → Type 0
AllMayBecome bytes [] [] = Unit {0}
AllMayBecome bytes [] (word ∷ words) = ⊥
AllMayBecome bytes (old ∷ olds) [] = ⊥
AllMayBecome bytes (old ∷ olds) (word ∷ words) = MayBecome bytes old word × AllMayBecome bytes olds words

-- the bytes from an offset on, with the words in place of the lexemes' bytes
abbrev pub respelled_from : ℕ → List ℕ → List Lexeme → List (List ℕ) → List ℕ
respelled_from at bytes [] words = bytes
respelled_from at bytes (old ∷ olds) [] = bytes
respelled_from at bytes (old ∷ olds) (word ∷ words) = take (old.start - at) bytes ++ word ++ respelled_from old.end
    (drop (old.end - at) bytes) olds words

-- the lexemes after it: the same number and classes, the words, and the spans shifted, from the offset `at` to `now`
abbrev pub respelled_lexemes_from : ℕ → ℕ → List Lexeme → List (List ℕ) → List Lexeme
respelled_lexemes_from at now [] words = []
respelled_lexemes_from at now (old ∷ olds) [] = []
respelled_lexemes_from at now (old ∷ olds) (word ∷ words) =
    let start = now + (old.start - at) in
    record { class = old.class; start = start; end = start + length word; bytes = word } ∷ respelled_lexemes_from old.end
    (start + length word) olds words

abbrev pub respelled : List ℕ → List Lexeme → List (List ℕ) → List ℕ
respelled bytes olds words = respelled_from 0 bytes olds words

abbrev pub respelled_lexemes : List Lexeme → List (List ℕ) → List Lexeme
respelled_lexemes olds words = respelled_lexemes_from 0 0 olds words

-- replaced names keep the tokens
abbrev pub RespelledKeepLexemes : Type 0
RespelledKeepLexemes = (bytes : List ℕ) (lexemes : List Lexeme) (words : List (List ℕ)) → Lexed bytes lexemes → AllMayBecome bytes lexemes words
    → Lexed (respelled bytes lexemes words) (respelled_lexemes lexemes words)

-- respelled back with the old words, the respelled bytes are the old ones
abbrev pub RespelledBack : Type 0
RespelledBack =
    (bytes : List ℕ) (lexemes : List Lexeme) (words : List (List ℕ)) → Lexed bytes lexemes → length words ≡ length lexemes
    → respelled (respelled bytes lexemes words) (respelled_lexemes lexemes words) (map (λ x. x.bytes) lexemes) ≡ bytes

-- ---- the same with the lexemes beside

-- the lexeme before is a `{` that ends at this offset
abbrev pub IsBehindBrace : Option Lexeme → ℕ → Type 0
IsBehindBrace None start = ⊥
IsBehindBrace (Some before) start = (before.bytes ≡ codes "{") × (before.end ≡ start)

-- the lexeme behind begins at this offset, with `|`
abbrev pub BarFollows : ℕ → List Lexeme → Type 0
BarFollows end [] = ⊥
BarFollows end (next ∷ rest) = (next.start ≡ end) × (slice_index next.bytes 0 ≡ byte "|")

-- a lexeme keeps its bytes, or it is a Lower, its word becomes a value name, and it is not directly between a lexeme
-- `{` and one that begins with `|`
abbrev pub MayBecomeBetween : Option Lexeme → Lexeme → List Lexeme → List ℕ → Type 0
MayBecomeBetween before old behind word =
    (word ≡ old.bytes) ⊎ ((old.class ≡ class.Lower) × IsTrue (is_value_name word) × (IsBehindBrace before old.start → BarFollows old.end behind → ⊥))

abbrev pub AllMayBecomeBehind : Option Lexeme → List Lexeme → List (List ℕ) → Type 0
AllMayBecomeBehind before [] [] = Unit {0}
AllMayBecomeBehind before [] (word ∷ words) = ⊥
AllMayBecomeBehind before (old ∷ olds) [] = ⊥
AllMayBecomeBehind before (old ∷ olds) (word ∷ words) = MayBecomeBetween before old olds word × AllMayBecomeBehind (Some old) olds words

-- names replaced so keep the tokens
abbrev pub NamesKeepLexemes : Type 0
NamesKeepLexemes = (bytes : List ℕ) (lexemes : List Lexeme) (words : List (List ℕ)) → Lexed bytes lexemes → AllMayBecomeBehind None lexemes words
    → Lexed (respelled bytes lexemes words) (respelled_lexemes lexemes words)
