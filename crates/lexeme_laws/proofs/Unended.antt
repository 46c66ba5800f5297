-- If the bytes are Bad, no trivia, no Text and no Quoted begins.
use Rattle.std.proofs.Common.{◌≡◌, ℕ, List, ◌++◌, false, drop, take, refl, ap, sym, ◌∙◌}
use Rattle.std.proofs.lemmas.List.{take-append-drop}
use Rattle.ml_lexer.specs.declared.piece.Piece.{Piece}
use Rattle.ml_lexer.specs.declared.piece.Piece.TheVariants as piece
use Rattle.ml_lexer.specs.Pieces.{lexeme_at, piece_at}
use Rattle.ml_lexer.proofs.Fronts.{piece_tests}
use Rattle.lexeme_laws.specs.Table.{IsTextLexeme, IsQuoted}
use Rattle.lexeme_laws.specs.Laws.{BadDoesNotEnd}
use Rattle.lexeme_laws.specs.Trivia.{TriviaBegins}
use Rattle.lexeme_laws.proofs.Refused.{text_bad, quoted_bad}
use Rattle.lexeme_laws.proofs.TriviaTaken.{trivia_are_taken}

no_trivia : (bytes : List ℕ) → piece_at bytes ≡ piece.Bad → (n : ℕ) → TriviaBegins n bytes → ⊥
no_trivia bytes e n begins = let wrong : ◌≡◌ {A = Piece} (piece.Trivia n) piece.Bad = sym (trivia_are_taken bytes n begins) ∙ e in cc

text_first : (f rest : List ℕ) → IsTextLexeme f → piece_at (f ++ rest) ≡ piece.Bad → lexeme_at (f ++ rest) ≡ piece.Bad
text_first f rest (IsTextLexeme.closed body is) e = sym (piece_tests _ false false refl refl) ∙ e

quoted_first : (f rest : List ℕ) → IsQuoted f → piece_at (f ++ rest) ≡ piece.Bad → lexeme_at (f ++ rest) ≡ piece.Bad
quoted_first f rest (IsQuoted.quoted word t h is) e = sym (piece_tests _ false false refl refl) ∙ e

no_text : (bytes : List ℕ) → piece_at bytes ≡ piece.Bad → (n : ℕ) → IsTextLexeme (take n bytes) → ⊥
no_text bytes e n is =
    text_bad (take n bytes) (drop n bytes) is (text_first (take n bytes) (drop n bytes) is (ap piece_at (take-append-drop n bytes) ∙ e))

no_quoted : (bytes : List ℕ) → piece_at bytes ≡ piece.Bad → (n : ℕ) → IsQuoted (take n bytes) → ⊥
no_quoted bytes e n is =
    quoted_bad (take n bytes) (drop n bytes) is (quoted_first (take n bytes) (drop n bytes) is (ap piece_at (take-append-drop n bytes) ∙ e))

pub bad_does_not_end : BadDoesNotEnd
bad_does_not_end bytes e n = (no_trivia bytes e n, λ begins. no_text bytes e n begins.1, λ begins. no_quoted bytes e n begins.1)
