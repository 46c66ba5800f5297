-- The laws of cutting (own).
use Rattle.std.specs.Prelude.{◌≡◌, ℕ, ◌-◌, ◌<◌, ◌≤◌, List, [], ◌∷◌, All, length, take, drop}
use Rattle.rotor_base.specs.declared.token.Class.{Class}
use Rattle.ml_lexer.specs.declared.piece.Piece.TheVariants as piece
use Rattle.ml_lexer.specs.Pieces.{piece_at}
use Rattle.ml_lexer.specs.Lexed.{Lexeme, Lexed, Fault, LexFault}

-- the bytes have one list of lexemes at most
abbrev pub OneLexed : Type 0
OneLexed = (bytes : List ℕ) (one other : List Lexeme) → Lexed bytes one → Lexed bytes other → one ≡ other

-- they have one fault at most
abbrev pub OneFault : Type 0
OneFault = (bytes : List ℕ) (one other : Fault) → LexFault bytes one → LexFault bytes other → one ≡ other

-- they do not have both
abbrev pub LexedOrFault : Type 0
LexedOrFault = (bytes : List ℕ) (lexemes : List Lexeme) (fault : Fault) → Lexed bytes lexemes → LexFault bytes fault → ⊥

-- a lexeme is one also if nothing follows
abbrev pub LexemesEndAlone : Type 0
LexemesEndAlone = (bytes : List ℕ) (kind : Class) (n : ℕ) → n ≤ length bytes → piece_at bytes ≡ piece.Lexeme kind n
    → piece_at (take n bytes) ≡ piece.Lexeme kind n

-- its bytes are, alone, a whole lexeme of its class
abbrev pub IsWhole : Lexeme → Type 0
IsWhole x = piece_at x.bytes ≡ piece.Lexeme x.class (length x.bytes)

-- so are the lexemes of a file
abbrev pub LexemesAreWhole : Type 0
LexemesAreWhole = (bytes : List ℕ) (lexemes : List Lexeme) → Lexed bytes lexemes → All IsWhole lexemes

-- each begins at this offset or behind it, ends behind its start and within the file, has its span's bytes, and the
-- next begins at its end or behind it
abbrev pub AreInOrder : List ℕ → ℕ → List Lexeme → Type 0
AreInOrder bytes low [] = low ≤ length bytes
AreInOrder bytes low (x ∷ xs) = (low ≤ x.start) × (x.start < x.end) × (x.end ≤ length bytes) × (x.bytes ≡ take (x.end - x.start) (drop x.start bytes))
    × AreInOrder bytes x.end xs

-- the lexemes of a file are in order
abbrev pub LexemesAreInOrder : Type 0
LexemesAreInOrder = (bytes : List ℕ) (lexemes : List Lexeme) → Lexed bytes lexemes → AreInOrder bytes 0 lexemes

-- there are no more of them than bytes
abbrev pub LexemesAreFew : Type 0
LexemesAreFew = (bytes : List ℕ) (lexemes : List Lexeme) → Lexed bytes lexemes → length lexemes ≤ length bytes
