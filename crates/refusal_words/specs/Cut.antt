-- A source and its tokens (own; the OCaml manual, "Lexical conventions").
use Rattle.std.specs.Prelude.{◌≡◌, ◌⊎◌, ℕ, List, [], ◌∷◌}
use Rattle.rotor_base.specs.declared.source.SourceFile.{SourceFile}
use Rattle.ml_lexer.specs.Lexed.{Fault, Lexed, LexFault, Lexeme, view_tokens}
use Rattle.refusal_words.specs.declared.cut.CutSource.{CutSource}

-- a source by its name and its bytes, with its lexemes
pub record Cut : Type 0 where
  pub name : List ℕ
  pub bytes : List ℕ
  pub lexemes : List Lexeme

abbrev pub view_cut : CutSource → Cut
view_cut c = record { name = c.name.now; bytes = c.bytes.now; lexemes = view_tokens c.tokens.items }

-- the lexemes that some bytes are cut into; bytes that the lexer refuses have none
abbrev pub AreLexemes : List ℕ → List Lexeme → Type 0
AreLexemes bytes xs = Lexed bytes xs ⊎ ((fault : Fault) × LexFault bytes fault × (xs ≡ []))

-- the source, with its lexemes
pub record IsCut (source : SourceFile) (cut : Cut) : Type 0 where
  pub name : cut.name ≡ source.name
  pub bytes : cut.bytes ≡ source.bytes
  pub lexemes : AreLexemes source.bytes cut.lexemes

-- the sources, each with its lexemes
abbrev pub AreCuts : List SourceFile → List Cut → Type 0
AreCuts [] [] = Unit {0}
AreCuts [] (cut ∷ cuts) = ⊥
AreCuts (source ∷ sources) [] = ⊥
AreCuts (source ∷ sources) (cut ∷ cuts) = IsCut source cut × AreCuts sources cuts
