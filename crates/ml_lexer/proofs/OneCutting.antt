-- A list of bytes has one cutting at most.
use Rattle.std.proofs.Common.{◌≡◌, ℕ, ◌+◌, List, [], ◌∷◌, ◌++◌, length, drop, take, refl, ap, sym, ◌∙◌}
use Rattle.std.proofs.Math.Seq.{drop-append_seam}
use Rattle.rotor_base.specs.declared.token.Class.{Class}
use Rattle.ml_lexer.specs.declared.piece.Piece.{Piece}
use Rattle.ml_lexer.specs.declared.piece.Piece.TheVariants as piece
use Rattle.ml_lexer.specs.Quotes.{opens_quoted, char_length}
use Rattle.ml_lexer.specs.Pieces.{piece_at, lexeme_at, sign_at, begins_label, begins_operator, mark_length}
use Rattle.ml_lexer.specs.Lexed.{Lexeme, LexedFrom, Lexed, Fault, FaultFrom, LexFault}
use Rattle.ml_lexer.specs.Lexed as lexed

-- nothing begins at the end
pub end_piece : piece_at [] ≡ piece.Bad
unfolding piece_at lexeme_at sign_at begins_label begins_operator mark_length opens_quoted char_length
end_piece = refl

rest_of : (front rest : List ℕ) {bytes : List ℕ} → bytes ≡ front ++ rest → rest ≡ drop (length front) bytes
rest_of front rest e = rw e (sym (drop-append_seam front rest))

take_front : (front rest : List ℕ) → take (length front) (front ++ rest) ≡ front
take_front [] rest = refl
take_front (c ∷ front) rest = ap (λ cs. c ∷ cs) (take_front front rest)

front_of : (front rest : List ℕ) {bytes : List ℕ} → bytes ≡ front ++ rest → front ≡ take (length front) bytes
front_of front rest e = rw e (sym (take_front front rest))

-- two cuts of one length are one
same_rest : (front rest front' rest' : List ℕ) {bytes : List ℕ} → bytes ≡ front ++ rest → bytes ≡ front' ++ rest' → length front' ≡ length front
    → rest' ≡ rest
same_rest front rest front' rest' {bytes = bytes} e e' same = rest_of front' rest' e' ∙ ap (λ n. drop n bytes) same ∙ sym (rest_of front rest e)

same_front : (front rest front' rest' : List ℕ) {bytes : List ℕ} → bytes ≡ front ++ rest → bytes ≡ front' ++ rest' → length front' ≡ length front
    → front' ≡ front
same_front front rest front' rest' {bytes = bytes} e e' same = front_of front' rest' e' ∙ ap (λ n. take n bytes) same ∙ sym (front_of front rest e)

trivia_length : {a b : ℕ} {p : Piece} → p ≡ piece.Trivia a → p ≡ piece.Trivia b → b ≡ a
trivia_length e f = cc

lexeme_length : {kind kind' : Class} {a b : ℕ} {p : Piece} → p ≡ piece.Lexeme kind a → p ≡ piece.Lexeme kind' b → (kind' ≡ kind) × (b ≡ a)
lexeme_length e f = (cc, cc)

same_lexeme : {at n n' : ℕ} {kind kind' : Class} {front front' : List ℕ} {ones others : List Lexeme} → kind' ≡ kind → n' ≡ n → front' ≡ front
    → ones ≡ others → ◌≡◌ {A = List Lexeme} (record { class = kind; start = at; end = at + n; bytes = front } ∷ ones)
    (record { class = kind'; start = at; end = at + n'; bytes = front' } ∷ others)
same_lexeme k n f o = rw (k, n, f, o) refl

pub one_lexed : {at : ℕ} {bytes : List ℕ} {one other : List Lexeme} → LexedFrom at bytes one → LexedFrom at bytes other → one ≡ other
one_lexed lexed.nothing lexed.nothing = refl
one_lexed lexed.nothing (lexed.trivia front rest e p cut) = let ends = end_piece in cc
one_lexed lexed.nothing (lexed.lexeme kind front rest e p cut) = let ends = end_piece in cc
one_lexed (lexed.trivia front rest e p cut) lexed.nothing = let ends = end_piece in cc
one_lexed (lexed.lexeme kind front rest e p cut) lexed.nothing = let ends = end_piece in cc
one_lexed (lexed.trivia front rest e p cut) (lexed.trivia front' rest' e' p' cut') =
    let n = trivia_length p p' in
    one_lexed cut (rw (n, same_rest front rest front' rest' e e' n) at cut')
one_lexed (lexed.trivia front rest e p cut) (lexed.lexeme kind' front' rest' e' p' cut') = cc
one_lexed (lexed.lexeme kind front rest e p cut) (lexed.trivia front' rest' e' p' cut') = cc
one_lexed (lexed.lexeme kind front rest e p cut) (lexed.lexeme kind' front' rest' e' p' cut') =
    let same = lexeme_length p p' in
    same_lexeme same.0 same.1 (same_front front rest front' rest' e e' same.1)
    (one_lexed cut (rw (same.1, same_rest front rest front' rest' e e' same.1) at cut'))

pub one_fault : {at : ℕ} {bytes : List ℕ} {one other : Fault} → FaultFrom at bytes one → FaultFrom at bytes other → one ≡ other
one_fault (lexed.bad some p) (lexed.bad some' p') = refl
one_fault (lexed.bad some p) (lexed.long_name p') = cc
one_fault (lexed.bad some p) (lexed.trivia front' rest' e' p' cut') = cc
one_fault (lexed.bad some p) (lexed.lexeme kind' front' rest' e' p' cut') = cc
one_fault (lexed.long_name p) (lexed.bad some' p') = cc
one_fault (lexed.long_name p) (lexed.long_name p') = refl
one_fault (lexed.long_name p) (lexed.trivia front' rest' e' p' cut') = cc
one_fault (lexed.long_name p) (lexed.lexeme kind' front' rest' e' p' cut') = cc
one_fault (lexed.trivia front rest e p cut) (lexed.bad some' p') = cc
one_fault (lexed.trivia front rest e p cut) (lexed.long_name p') = cc
one_fault (lexed.trivia front rest e p cut) (lexed.trivia front' rest' e' p' cut') =
    let n = trivia_length p p' in
    one_fault cut (rw (n, same_rest front rest front' rest' e e' n) at cut')
one_fault (lexed.trivia front rest e p cut) (lexed.lexeme kind' front' rest' e' p' cut') = cc
one_fault (lexed.lexeme kind front rest e p cut) (lexed.bad some' p') = cc
one_fault (lexed.lexeme kind front rest e p cut) (lexed.long_name p') = cc
one_fault (lexed.lexeme kind front rest e p cut) (lexed.trivia front' rest' e' p' cut') = cc
one_fault (lexed.lexeme kind front rest e p cut) (lexed.lexeme kind' front' rest' e' p' cut') =
    let same = lexeme_length p p' in
    one_fault cut (rw (same.1, same_rest front rest front' rest' e e' same.1) at cut')

pub not_both : {at : ℕ} {bytes : List ℕ} {lexemes : List Lexeme} {fault : Fault} → LexedFrom at bytes lexemes → FaultFrom at bytes fault → ⊥
not_both lexed.nothing (lexed.bad some' p') = some' refl
not_both lexed.nothing (lexed.long_name p') = let ends = end_piece in cc
not_both lexed.nothing (lexed.trivia front' rest' e' p' cut') = let ends = end_piece in cc
not_both lexed.nothing (lexed.lexeme kind' front' rest' e' p' cut') = let ends = end_piece in cc
not_both (lexed.trivia front rest e p cut) (lexed.bad some' p') = cc
not_both (lexed.trivia front rest e p cut) (lexed.long_name p') = cc
not_both (lexed.trivia front rest e p cut) (lexed.trivia front' rest' e' p' cut') =
    let n = trivia_length p p' in
    not_both cut (rw (n, same_rest front rest front' rest' e e' n) at cut')
not_both (lexed.trivia front rest e p cut) (lexed.lexeme kind' front' rest' e' p' cut') = cc
not_both (lexed.lexeme kind front rest e p cut) (lexed.bad some' p') = cc
not_both (lexed.lexeme kind front rest e p cut) (lexed.long_name p') = cc
not_both (lexed.lexeme kind front rest e p cut) (lexed.trivia front' rest' e' p' cut') = cc
not_both (lexed.lexeme kind front rest e p cut) (lexed.lexeme kind' front' rest' e' p' cut') =
    let same = lexeme_length p p' in
    not_both cut (rw (same.1, same_rest front rest front' rest' e e' same.1) at cut')
