-- If a Char, a Text or a Quoted of the table is taken, it has its class.
use Rattle.std.proofs.Common.{◌≡◌, ℕ, List, [], ◌∷◌, ◌++◌, length, Option, Some, refl, ap, sym, ◌∙◌, append_assoc}
use Rattle.std.specs.Prelude.{codes}
use Rattle.std.specs.Str.{byte}
use Rattle.rotor_base.specs.declared.token.Class.{Class}
use Rattle.rotor_base.specs.declared.token.Class.TheVariants as class
use Rattle.ml_lexer.specs.declared.piece.Piece.TheVariants as piece
use Rattle.ml_lexer.specs.Quotes.{char_length, text_length, quoted_length}
use Rattle.ml_lexer.specs.Pieces.{char_or_variable, lexeme_at}
use Rattle.ml_lexer.proofs.Fronts.{lexeme_of_piece}
use Rattle.lexeme_laws.specs.Table.{IsChar, IsTextLexeme, IsQuoted}
use Rattle.lexeme_laws.proofs.WordReach.{quote_lexeme, text_lexeme, quoted_lexeme}
use Rattle.lexeme_laws.proofs.QuoteReach.{char_whole, quoted_opens}
use Rattle.lexeme_laws.proofs.QuoteSound.{ended_parts, char_parts}
use Rattle.lexeme_laws.proofs.WordClass.{Gives}

char_class : (o : Option ℕ) (b : List ℕ) (n : ℕ) (k : Class) (m : ℕ) → o ≡ Some n → char_or_variable o b ≡ piece.Lexeme k m → class.Char ≡ k
char_class o b n k m e f = let parts = char_parts k n m (sym (ap (λ o. char_or_variable o b) e) ∙ f) in parts.1

pub char_first : (f : List ℕ) → IsChar f → (s : List ℕ) × (f ≡ byte "'" ∷ s)
char_first f (IsChar.plain c h) = (c ∷ byte "'" ∷ [], refl)
char_first f (IsChar.short c h) = (byte "\\" ∷ c ∷ byte "'" ∷ [], refl)
char_first f (IsChar.decimal a b c h i j) = (byte "\\" ∷ a ∷ b ∷ c ∷ byte "'" ∷ [], refl)
char_first f (IsChar.hexadecimal a b h i) = (byte "\\" ∷ byte "x" ∷ a ∷ b ∷ byte "'" ∷ [], refl)
char_first f (IsChar.octal a b c h i j) = (byte "\\" ∷ byte "o" ∷ a ∷ b ∷ c ∷ byte "'" ∷ [], refl)

pub char_gives : (f rest : List ℕ) → IsChar f → Gives class.Char (length f) (f ++ rest)
char_gives f rest is k m e size =
    let first = char_first f is in
    let same : f ++ rest ≡ byte "'" ∷ (first.0 ++ rest) = ap (λ v. v ++ rest) first.1 in
    let at : lexeme_at (byte "'" ∷ (first.0 ++ rest)) ≡ piece.Lexeme k m = ap lexeme_at (sym same) ∙ lexeme_of_piece (f ++ rest) k m e in
    let whole : char_length (byte "'" ∷ (first.0 ++ rest)) ≡ Some (length f) = ap char_length (sym same) ∙ char_whole f rest is in
    char_class (char_length (byte "'" ∷ (first.0 ++ rest))) (byte "'" ∷ (first.0 ++ rest)) (length f) k m whole
    (sym (quote_lexeme (first.0 ++ rest)) ∙ at)

pub text_gives : (f rest : List ℕ) → IsTextLexeme f → Gives class.Text (length f) (f ++ rest)
text_gives f rest (IsTextLexeme.closed body is) k m e size =
    let s = (body ++ codes "\"") ++ rest in
    let parts = ended_parts class.Text k (text_length (byte "\"" ∷ s)) m (sym (text_lexeme s) ∙ lexeme_of_piece (byte "\"" ∷ s) k m e) in
    parts.1

pub quoted_gives : (f rest : List ℕ) → IsQuoted f → Gives class.Quoted (length f) (f ++ rest)
quoted_gives f rest (IsQuoted.quoted word t h is) k m e size =
    let s = word ++ (byte "|" ∷ (t ++ rest)) in
    let joined : (word ++ (byte "|" ∷ t)) ++ rest ≡ s = append_assoc word (byte "|" ∷ t) rest in
    let at : lexeme_at (byte "{" ∷ s) ≡ piece.Lexeme k m = ap (λ v. lexeme_at (byte "{" ∷ v)) (sym joined)
    ∙ lexeme_of_piece (byte "{" ∷ ((word ++ (byte "|" ∷ t)) ++ rest)) k m e in
    let parts = ended_parts class.Quoted k (quoted_length (byte "{" ∷ s)) m (sym (quoted_lexeme s (quoted_opens word (t ++ rest) h)) ∙ at) in
    parts.1
