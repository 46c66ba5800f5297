-- Respelled sources: lower-case words take new ones (the OCaml manual, "Lexical conventions").
use Rattle.std.specs.Prelude.{◌≡◌, ℕ, suc, List, [], ◌∷◌}
use Rattle.rotor_base.specs.declared.source.SourceFile.{SourceFile}
use Rattle.ml_lexer.specs.Lexed.{Lexeme, Lexed}
use Rattle.ml_lexer.specs.Respelled.{respelled}
use Rattle.value_sites.specs.Respelled.{Spelling}
use Rattle.ml_syntax.specs.RespelledFile.{new_words}

-- for each file, the new word of a token and its word
abbrev pub Spellings : Type 0
Spellings = ℕ → Spelling

-- a source, respelled: each lower-case word takes the new word of its token, and all other bytes stay
pub record IsRespelled (w : Spelling) (old new : SourceFile) : Type 0 where
  pub lexemes : List Lexeme
  pub cut : Lexed old.bytes lexemes
  pub name : new.name ≡ old.name
  pub bytes : new.bytes ≡ respelled old.bytes lexemes (new_words w 1 lexemes)

-- sources that are numbered from here, each respelled with the words of its file
abbrev pub AreRespelled : Spellings → ℕ → List SourceFile → List SourceFile → Type 0
AreRespelled w number [] [] = Unit {0}
AreRespelled w number [] (new ∷ news) = ⊥
AreRespelled w number (old ∷ olds) [] = ⊥
AreRespelled w number (old ∷ olds) (new ∷ news) = IsRespelled (w number) old new × AreRespelled w (suc number) olds news
