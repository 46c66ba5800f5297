use Rattle.std.proofs.Common.{arith, refl, ap, sym, ◌∙◌}
use Rattle.std.proofs.lemmas.Grind.{common_steps}
use Rattle.ml_lexer.specs.declared.piece.Piece.TheVariants.{Trivia, Lexeme}
use Rattle.ml_lexer.specs.Pieces.{Within}
use Rattle.ml_lexer.proofs.Cut.{left_trivia, left_lexeme, left_end, left_bad, left_long_name}
use Rattle.ml_lexer.proofs.Order.{tokens_are_few}
use Rattle.ml_lexer.proofs.scan.lex.Goals as goal
use Rattle.ml_lexer.proofs.scan.lex.Goals.{in-Trivia, in-Lexeme+in_ok-push-in-Lexeme}

pub returns-in-Bad-clause-fault : goal.returns-in-Bad-clause-fault
returns-in-Bad-clause-fault c = left_bad c.loop-rest.invariant (grind (arith, common_steps)) (sym c.piece_at.ensures.value ∙ c.in-Bad.is)

pub returns-in-LongName-clause-fault : goal.returns-in-LongName-clause-fault
returns-in-LongName-clause-fault c = left_long_name c.loop-rest.invariant (sym c.piece_at.ensures.value ∙ c.in-LongName.is)

pub loop-rest-preserved : goal.loop-rest-preserved
loop-rest-preserved c = elim c.match-piece_at.branch [
  | in-Trivia w ↦
      let fits : Within (Trivia w.in-Trivia.len) c.loop-rest.rest.now = rw w.in-Trivia.is at c.piece_at.ensures.within in
      rw (c.skip-rest.ensures, w.tokens-is, w.len-is)
      (left_trivia _ _ _ c.loop-rest.invariant _ fits.1 (sym c.piece_at.ensures.value ∙ w.in-Trivia.is))
  | in-Lexeme+in_ok-push-in-Lexeme w ↦
      let fits : Within (Lexeme w.in-Lexeme.class w.in-Lexeme.len) c.loop-rest.rest.now = rw w.in-Lexeme.is at c.piece_at.ensures.within in
      rw (c.skip-rest.ensures, w.len-is)
      (left_lexeme _ _ _ c.loop-rest.invariant _ fits.1 w.in-Lexeme.class _ _ (sym c.piece_at.ensures.value ∙ w.in-Lexeme.is)
      (ap (λ v. v.items) w.tokens-is ∙ w.in_ok-push-in-Lexeme.ensures.items) refl refl refl w.front.ensures)
]

pub returns-clause-found : goal.returns-clause-found
returns-clause-found c = rw (c.shrink_to_fit.ensures.items) (left_end c.loop-rest.invariant (grind (arith, common_steps)))

pub returns-clause-few : goal.returns-clause-few
returns-clause-few c = rw (c.shrink_to_fit.ensures.items)
    (tokens_are_few _ _ (left_end c.loop-rest.invariant (grind (arith, common_steps))))
