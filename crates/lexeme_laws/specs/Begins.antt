-- What begins at the front of some bytes by the table of lexemes, and the rules on what follows
-- (own; the OCaml manual, "Lexical conventions").
use Rattle.std.specs.Prelude.{ℕ, ◌-◌, ◌<◌, ◌≤◌, ◌⊎◌, Bool, ◌&&◌, IsTrue, IsFalse}
use Rattle.std.specs.Prelude.{List, ◌∷◌, ◌++◌, codes, length, take, drop, slice_index}
use Rattle.rotor_base.specs.Limits.{max_name_bytes}
use Rattle.rotor_base.specs.Name.{is_identifier_byte, is_reserved_word}
use Rattle.rotor_base.specs.declared.token.Class.{Class}
use Rattle.rotor_base.specs.declared.token.Class.TheVariants as class
use Rattle.ml_lexer.specs.Bytes.{among}
use Rattle.lexeme_laws.specs.Table.{IsChar, IsOfClass, is_word}

-- the byte before this place and the byte at it are identifier characters
abbrev pub is_inside_word : ℕ → List ℕ → Bool
is_inside_word n bytes = is_identifier_byte (slice_index bytes (n - 1)) && is_identifier_byte (slice_index bytes n)

-- no Char begins here
abbrev pub NoCharBegins : List ℕ → Type 0
NoCharBegins bytes = (n : ℕ) → n ≤ length bytes → IsChar (take n bytes) → ⊥

-- a word is never cut shorter, and no TypeVar begins where a Char begins
abbrev pub MayEndAt : Class → ℕ → List ℕ → Type 0
MayEndAt class.Lower n bytes = IsFalse (is_inside_word n bytes)
MayEndAt class.Upper n bytes = IsFalse (is_inside_word n bytes)
MayEndAt class.Keyword n bytes = IsFalse (is_inside_word n bytes)
MayEndAt class.TypeVar n bytes = IsFalse (is_inside_word n bytes) × NoCharBegins bytes
MayEndAt class.Tag n bytes = IsFalse (is_inside_word n bytes)
MayEndAt class.Label n bytes = IsFalse (is_inside_word n bytes)
MayEndAt _ n bytes = Unit {0}

-- the first `n` bytes are a lexeme of this class
abbrev pub Begins : Class → ℕ → List ℕ → Type 0
Begins kind n bytes = (n ≤ length bytes) × IsOfClass kind (take n bytes) × MayEndAt kind n bytes

-- a Label whose word is a keyword or `_`
pub data IsReservedLabel : List ℕ → Type 0 where
  without_colon : (mark : ℕ) (word : List ℕ) → IsTrue (is_reserved_word word) → IsReservedLabel (mark ∷ word)
  with_colon : (mark : ℕ) (word : List ℕ) → IsTrue (is_reserved_word word) → IsReservedLabel (mark ∷ (word ++ codes ":"))

-- what is Bad at its first byte: an Int or Float that an identifier character follows directly, and such a Label
abbrev pub IsBadAt : Class → ℕ → List ℕ → Type 0
IsBadAt class.Int n bytes = IsTrue (is_identifier_byte (slice_index bytes n))
IsBadAt class.Float n bytes = IsTrue (is_identifier_byte (slice_index bytes n))
IsBadAt class.Label n bytes = IsReservedLabel (take n bytes)
IsBadAt _ n bytes = ⊥

-- a word of more than 255 bytes begins here
abbrev pub LongWordBegins : List ℕ → Type 0
LongWordBegins bytes = (n : ℕ) × (n ≤ length bytes) × IsTrue (is_word (take n bytes)) × (max_name_bytes < n)

-- such a word begins here, or behind one of `~`, `?`, `'` and a backquote
abbrev pub LongNameBegins : List ℕ → Type 0
LongNameBegins bytes = LongWordBegins bytes ⊎ (IsTrue (among "~?'`" (slice_index bytes 0)) × LongWordBegins (drop 1 bytes))

-- the classes of a word behind such a mark
abbrev pub IsMarked : Class → Type 0
IsMarked class.TypeVar = Unit {0}
IsMarked class.Tag = Unit {0}
IsMarked class.Label = Unit {0}
IsMarked _ = ⊥
