-- The laws of the table of lexemes: which piece `piece_at` takes (the OCaml manual, "Lexical conventions").
use Rattle.std.specs.Prelude.{◌≡◌, ℕ, ◌≤◌, ◌⊎◌, List, drop, ◌&&◌, IsTrue}
use Rattle.rotor_base.specs.declared.token.Class.{Class}
use Rattle.rotor_base.specs.declared.token.Class.TheVariants as class
use Rattle.ml_lexer.specs.declared.piece.Piece.TheVariants as piece
use Rattle.ml_lexer.specs.Bytes.{is_at}
use Rattle.ml_lexer.specs.Quotes.{opens_quoted}
use Rattle.ml_lexer.specs.Trivia.{opens_comment}
use Rattle.ml_lexer.specs.Pieces.{piece_at}
use Rattle.lexeme_laws.specs.Begins.{Begins, IsBadAt, IsMarked, LongWordBegins, LongNameBegins}
use Rattle.lexeme_laws.specs.Trivia.{TriviaBegins}

-- ---- lexemes

-- a lexeme that is taken follows the row of its class, with the row's rules on what follows
abbrev pub LexemesBegin : Type 0
LexemesBegin = (bytes : List ℕ) (kind : Class) (n : ℕ) → piece_at bytes ≡ piece.Lexeme kind n → Begins kind n bytes

-- it is none that the table calls Bad
abbrev pub LexemesAreNotBad : Type 0
LexemesAreNotBad = (bytes : List ℕ) (kind : Class) (n : ℕ) → piece_at bytes ≡ piece.Lexeme kind n → IsBadAt kind n bytes → ⊥

-- no lexeme of the table that begins there is longer
abbrev pub LexemesAreLongest : Type 0
LexemesAreLongest =
    (bytes : List ℕ) (kind : Class) (n : ℕ) → piece_at bytes ≡ piece.Lexeme kind n
    → (other : Class) (m : ℕ) → Begins other m bytes → m ≤ n

-- its bytes are a lexeme of no other class, but those of a Mark may be an Infix
abbrev pub ClassesAreApart : Type 0
ClassesAreApart =
    (bytes : List ℕ) (kind : Class) (n : ℕ) → piece_at bytes ≡ piece.Lexeme kind n
    → (other : Class) → Begins other n bytes → (other ≡ kind) ⊎ ((other ≡ class.Infix) × (kind ≡ class.Mark))

-- ---- trivia

-- if a trivia of the table begins, `piece_at` takes it, and so no lexeme and no other trivia
abbrev pub TriviaAreTaken : Type 0
TriviaAreTaken = (bytes : List ℕ) (n : ℕ) → TriviaBegins n bytes → piece_at bytes ≡ piece.Trivia n

-- a trivia that is taken is one of the table
abbrev pub TriviaBegin : Type 0
TriviaBegin = (bytes : List ℕ) (n : ℕ) → piece_at bytes ≡ piece.Trivia n → TriviaBegins n bytes

-- no lexeme of the table that begins there is longer
abbrev pub TriviaAreLongest : Type 0
TriviaAreLongest =
    (bytes : List ℕ) (n : ℕ) → piece_at bytes ≡ piece.Trivia n
    → (other : Class) (m : ℕ) → Begins other m bytes → m ≤ n

-- ---- faults

-- Why the bytes are Bad although a lexeme of this length begins: a lexeme that is no shorter is Bad by the table, or a
-- comment, an attribute or a Quoted opens there.
pub data IsRefused (bytes : List ℕ) (m : ℕ) : Type 0 where
  bad : (kind : Class) (n : ℕ) → Begins kind n bytes → IsBadAt kind n bytes → m ≤ n → IsRefused bytes m
  comment : IsTrue (opens_comment bytes) → IsRefused bytes m
  attribute : IsTrue (is_at "[" 0 bytes && is_at "@" 1 bytes) → IsRefused bytes m
  quoted : IsTrue (opens_quoted bytes) → IsRefused bytes m

-- if the bytes are Bad, each lexeme of the table that begins is refused so
abbrev pub BadIsRefused : Type 0
BadIsRefused =
    (bytes : List ℕ) → piece_at bytes ≡ piece.Bad
    → (other : Class) (m : ℕ) → Begins other m bytes → IsRefused bytes m

-- no trivia begins there, and no Text and no Quoted, so that one that opens does not end
abbrev pub BadDoesNotEnd : Type 0
BadDoesNotEnd =
    (bytes : List ℕ) → piece_at bytes ≡ piece.Bad → (n : ℕ)
    → (TriviaBegins n bytes → ⊥) × (Begins class.Text n bytes → ⊥) × (Begins class.Quoted n bytes → ⊥)

-- a LongName has a word of more than 255 bytes
abbrev pub LongNamesAreLong : Type 0
LongNamesAreLong = (bytes : List ℕ) → piece_at bytes ≡ piece.LongName → LongNameBegins bytes

-- if such a word begins, the bytes are a LongName
abbrev pub LongWordsAreRefused : Type 0
LongWordsAreRefused = (bytes : List ℕ) → LongWordBegins bytes → piece_at bytes ≡ piece.LongName

-- no TypeVar, Tag or Label that is taken has such a word behind its mark
abbrev pub MarkedWordsAreShort : Type 0
MarkedWordsAreShort =
    (bytes : List ℕ) (kind : Class) (n : ℕ) → piece_at bytes ≡ piece.Lexeme kind n → IsMarked kind
    → LongWordBegins (drop 1 bytes) → ⊥
