-- The steps of a cutting, as the loop of `lex` takes them.
use Rattle.std.proofs.Common.{◌≡◌, ℕ, ◌+◌, ◌-◌, ◌<◌, ◌≤◌, List, [], ◌∷◌, ◌++◌, length, take, drop, ap, sym, ◌∙◌, arith, length-take, length-drop}
use Rattle.std.proofs.Common.{append_assoc, append-nil}
use Rattle.std.proofs.lemmas.List.{take-append-drop, map-append}
use Rattle.rotor_base.specs.declared.token.Class.{Class}
use Rattle.rotor_base.specs.declared.token.Token.{Token}
use Rattle.ml_lexer.specs.declared.piece.Piece.TheVariants as piece
use Rattle.ml_lexer.specs.Pieces.{piece_at}
use Rattle.ml_lexer.specs.Lexed.{Lexeme, view_token, view_tokens, LexedFrom, Lexed, Fault, Bad, LongName, FaultFrom, LexFault}
use Rattle.ml_lexer.specs.Lexed as lexed

-- what is left to cut completes the cutting of the file
pub record Left (src rest : List ℕ) (tokens : List Token) : Type 0 where
  pub few : length rest ≤ length src
  pub lexed : (more : List Lexeme) → LexedFrom (length src - length rest) rest more → Lexed src (view_tokens tokens ++ more)
  pub fault : (fault : Fault) → FaultFrom (length src - length rest) rest fault → LexFault src fault

pub left_start : (src : List ℕ) (tokens : List Token) → tokens ≡ [] → Left src src tokens
left_start src tokens e = record {
  few = omega arith;
  lexed = λ more h. let at : length src - length src ≡ 0 = omega arith in rw e (rw at at h);
  fault = λ fault h. let at : length src - length src ≡ 0 = omega arith in rw at at h;
}

module _ (src rest : List ℕ) (tokens : List Token) (left : Left src rest tokens) (n : ℕ) (fits : n ≤ length rest) where
  front_length : length (take n rest) ≡ n
  front_length = rw length-take (omega arith)

  offset : (length src - length rest) + length (take n rest) ≡ length src - length (drop n rest)
  offset = let small : length rest ≤ length src = left.few in rw (front_length, length-drop) (omega arith)

  pub left_trivia : piece_at rest ≡ piece.Trivia n → Left src (drop n rest) tokens
  left_trivia e = record {
    few = let small : length rest ≤ length src = left.few in rw length-drop (omega arith);
    lexed = λ more h. left.lexed more
        (lexed.trivia (take n rest) (drop n rest) (sym (take-append-drop n rest)) (e ∙ ap piece.Trivia (sym front_length)) (rw offset h));
    fault = λ fault h. left.fault fault
        (lexed.trivia (take n rest) (drop n rest) (sym (take-append-drop n rest)) (e ∙ ap piece.Trivia (sym front_length)) (rw offset h));
  }

  pub left_lexeme : (kind : Class) (token : Token) (now : List Token) → piece_at rest ≡ piece.Lexeme kind n → now ≡ tokens ++ token ∷ []
      → token.class ≡ kind → token.start ≡ length src - length rest → token.end ≡ (length src - length rest) + n → token.bytes.now ≡ take n rest
      → Left src (drop n rest) now
  left_lexeme kind token now e grown class start end bytes = record {
    few = let small : length rest ≤ length src = left.few in rw length-drop (omega arith);
    lexed = λ more h.
        let cut : Lexed src (view_tokens tokens
        ++ (record {
          class = kind;
          start = length src - length rest;
          end = (length src - length rest) + length (take n rest);
          bytes = take n rest;
        } ∷ more)) =
        left.lexed _ (lexed.lexeme kind (take n rest) (drop n rest) (sym (take-append-drop n rest)) (e ∙ ap (piece.Lexeme kind) (sym front_length))
        (rw offset h)) in
        rw (grown, map-append, append_assoc, class, start, end, bytes) (rw front_length at cut);
    fault = λ fault h. left.fault fault
        (lexed.lexeme kind (take n rest) (drop n rest) (sym (take-append-drop n rest)) (e ∙ ap (piece.Lexeme kind) (sym front_length)) (rw offset h));
  }

-- at the end of the bytes the lexemes are those of the file
pub left_end : {src rest : List ℕ} {tokens : List Token} → Left src rest tokens → length rest ≡ 0 → Lexed src (view_tokens tokens)
left_end {src = src} {rest = []} {tokens = tokens} left none =
    rw append-nil at (left.lexed [] lexed.nothing)
left_end {src = src} {rest = b ∷ rest} {tokens = tokens} left none = absurd (omega arith)

pub left_bad : {src rest : List ℕ} {tokens : List Token} → Left src rest tokens → 0 < length rest → piece_at rest ≡ piece.Bad
    → LexFault src (Bad (length src - length rest))
left_bad {src = src} {rest = rest} {tokens = tokens} left some e =
    left.fault _ (lexed.bad (λ none. let zero : length rest ≡ 0 = ap length none in absurd (omega arith)) e)

pub left_long_name : {src rest : List ℕ} {tokens : List Token} → Left src rest tokens → piece_at rest ≡ piece.LongName
    → LexFault src (LongName (length src - length rest))
left_long_name left e = left.fault _ (lexed.long_name e)
