-- What is taken is a lexeme of the table.
use Rattle.std.proofs.Common.{ℕ, List, cond, get_or, refl, sym, ◌∙◌}
use Rattle.std.specs.Char.{is_ascii_digit}
use Rattle.rotor_base.specs.declared.token.Class.TheVariants as class
use Rattle.ml_lexer.specs.Bytes.{is_at, is_word_start}
use Rattle.ml_lexer.specs.Numbers.{number_at}
use Rattle.ml_lexer.specs.Quotes.{char_length, text_length, opens_quoted, quoted_length}
use Rattle.ml_lexer.specs.Pieces.{ended, word_at, marked_word_at, label_at, char_or_variable, begins_label, sign_at}
use Rattle.ml_lexer.proofs.Apart.{lexeme_tests}
use Rattle.ml_lexer.proofs.Fronts.{lexeme_of_piece}
use Rattle.lexeme_laws.specs.Laws.{LexemesBegin}
use Rattle.lexeme_laws.proofs.WordSound.{Fine, cond_fine, word_fine, tag_fine, label_fine}
use Rattle.lexeme_laws.proofs.SignSound.{sign_fine}
use Rattle.lexeme_laws.proofs.QuoteSound.{text_fine, quoted_fine, quote_fine}
use Rattle.lexeme_laws.proofs.NumberSound.{number_fine}

chain_fine : (b : List ℕ)
    → Fine b (cond (is_word_start (get_or b 0 0)) (word_at b)
    (cond (is_ascii_digit (get_or b 0 0)) (number_at b)
    (cond (is_at "\"" 0 b) (ended class.Text (text_length b))
    (cond (opens_quoted b) (ended class.Quoted (quoted_length b))
    (cond (is_at "'" 0 b) (char_or_variable (char_length b) b)
    (cond (is_at "`" 0 b) (marked_word_at class.Tag b) (cond (begins_label b) (label_at b) (sign_at b))))))))
chain_fine b =
    cond_fine b (is_word_start (get_or b 0 0)) (word_at b) _ (word_fine b) (λ _.
    cond_fine b (is_ascii_digit (get_or b 0 0)) (number_at b) _ (number_fine b) (λ _.
    cond_fine b (is_at "\"" 0 b) (ended class.Text (text_length b)) _ (text_fine b) (λ _.
    cond_fine b (opens_quoted b) (ended class.Quoted (quoted_length b)) _ (quoted_fine b) (λ _.
    cond_fine b (is_at "'" 0 b) (char_or_variable (char_length b) b) _ (quote_fine b) (λ _.
    cond_fine b (is_at "`" 0 b) (marked_word_at class.Tag b) _ (tag_fine b) (λ _.
    cond_fine b (begins_label b) (label_at b) (sign_at b) (label_fine b) (λ _. sign_fine b)))))))

pub lexemes_begin : LexemesBegin
lexemes_begin bytes kind n e = chain_fine bytes kind n (sym (lexeme_tests bytes _ _ refl refl) ∙ lexeme_of_piece bytes kind n e)
