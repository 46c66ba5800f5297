-- Edits that give the lexemes of a source new words (own).
use Rattle.std.specs.Prelude.{◌≡◌, ℕ, List, [], ◌∷◌, length}
use Rattle.ml_lexer.specs.Lexed.{Lexeme, Lexed}
use Rattle.ml_lexer.specs.Respelled.{respelled}
use Rattle.edits.specs.declared.Edit.{Edit}
use Rattle.edits.specs.Replaced.{AreInOrder, replaced}

-- each lexeme keeps its bytes as its word, or its span is replaced by its word
pub data GiveWords : List Lexeme → List (List ℕ) → List Edit → Type 0 where
  nothing : GiveWords [] [] []
  kept : {x : Lexeme} {xs : List Lexeme} {word : List ℕ} {words : List (List ℕ)} {edits : List Edit} → word ≡ x.bytes → GiveWords xs words edits
      → GiveWords (x ∷ xs) (word ∷ words) edits
  changed : {x : Lexeme} {xs : List Lexeme} {word : List ℕ} {words : List (List ℕ)} {edits : List Edit} → GiveWords xs words edits
      → GiveWords (x ∷ xs) (word ∷ words) (record { start = x.start; end = x.end; text = word } ∷ edits)

-- such edits are in order, and make the source with its lexemes respelled
abbrev pub ReplacedIsRespelled : Type 0
ReplacedIsRespelled =
    (src : List ℕ) (xs : List Lexeme) (words : List (List ℕ)) (edits : List Edit) → Lexed src xs → GiveWords xs words edits
    → AreInOrder 0 (length src) edits × (replaced src edits ≡ respelled src xs words)
