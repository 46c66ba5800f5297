-- Lexed and LexFault: the cutting of a file into pieces (own profile; the OCaml manual, "Lexical
-- conventions").
use Rattle.std.specs.Prelude.{◌≡◌, ◌≢◌, ℕ, ◌+◌, List, [], ◌∷◌, ◌++◌, length, map}
use Rattle.rotor_base.specs.declared.token.Class.{Class}
use Rattle.rotor_base.specs.declared.token.Token.{Token}
use Rattle.ml_lexer.specs.declared.piece.Piece.TheVariants as piece
use Rattle.ml_lexer.specs.Pieces.{piece_at}

-- a lexeme with its class, where it begins and ends, and its bytes
pub record Lexeme : Type 0 where
  pub class : Class
  pub start : ℕ
  pub end : ℕ
  pub bytes : List ℕ

abbrev pub view_token : Token → Lexeme
view_token t = record { class = t.class; start = t.start; end = t.end; bytes = t.bytes.now }

abbrev pub view_tokens : List Token → List Lexeme
view_tokens = map view_token

-- The bytes, which begin at this offset, are a concatenation of pieces, each the one that begins there. The list has
-- the lexemes among them.
pub data LexedFrom : ℕ → List ℕ → List Lexeme → Type 0 where
  nothing : {at : ℕ} → LexedFrom at [] []
  trivia : {at : ℕ} {bytes : List ℕ} {lexemes : List Lexeme} (front rest : List ℕ) → bytes ≡ front ++ rest
      → piece_at bytes ≡ piece.Trivia (length front) → LexedFrom (at + length front) rest lexemes → LexedFrom at bytes lexemes
  lexeme : {at : ℕ} {bytes : List ℕ} {lexemes : List Lexeme} (kind : Class) (front rest : List ℕ) → bytes ≡ front ++ rest
      → piece_at bytes ≡ piece.Lexeme kind (length front) → LexedFrom (at + length front) rest lexemes
      → LexedFrom at bytes (record { class = kind; start = at; end = at + length front; bytes = front } ∷ lexemes)

-- the whole file is cut so
abbrev pub Lexed : List ℕ → List Lexeme → Type 0
Lexed bytes lexemes = LexedFrom 0 bytes lexemes

-- a fault and its offset
pub data Fault : Type 0 where
  Bad : ℕ → Fault
  LongName : ℕ → Fault

-- The bytes before the fault's offset are cut into pieces, and there nothing begins, or the lexemes say Bad, or a
-- word is too long.
pub data FaultFrom : ℕ → List ℕ → Fault → Type 0 where
  bad : {at : ℕ} {bytes : List ℕ} → bytes ≢ [] → piece_at bytes ≡ piece.Bad → FaultFrom at bytes (Bad at)
  long_name : {at : ℕ} {bytes : List ℕ} → piece_at bytes ≡ piece.LongName → FaultFrom at bytes (LongName at)
  trivia : {at : ℕ} {bytes : List ℕ} {fault : Fault} (front rest : List ℕ) → bytes ≡ front ++ rest → piece_at bytes ≡ piece.Trivia (length front)
      → FaultFrom (at + length front) rest fault → FaultFrom at bytes fault
  lexeme : {at : ℕ} {bytes : List ℕ} {fault : Fault} (kind : Class) (front rest : List ℕ) → bytes ≡ front ++ rest
      → piece_at bytes ≡ piece.Lexeme kind (length front) → FaultFrom (at + length front) rest fault → FaultFrom at bytes fault

abbrev pub LexFault : List ℕ → Fault → Type 0
LexFault bytes fault = FaultFrom 0 bytes fault
