-- The new sources, as they are made: the lower-case words at the places of a set take the new word
-- (own).
use Rattle.std.specs.Prelude.{◌≡◌, ℕ, suc, List, [], ◌∷◌}
use Rattle.std.specs.BTreeSet.{BTreeSet}
use Rattle.rotor_base.specs.declared.place.Place.{Place}
use Rattle.rotor_base.specs.declared.source.SourceFile.{SourceFile}
use Rattle.ml_lexer.specs.Lexed.{Lexeme, Lexed}
use Rattle.ml_lexer.specs.Respelled.{respelled}
use Rattle.rename_parts.specs.Hits.{hit_words}

-- a source with the new word at the places of a set
pub record IsMade (set : BTreeSet Place) (new : List ℕ) (file : ℕ) (old out : SourceFile) : Type 0 where
  pub lexemes : List Lexeme
  pub cut : Lexed old.bytes lexemes
  pub name : out.name ≡ old.name
  pub bytes : out.bytes ≡ respelled old.bytes lexemes (hit_words set file new 1 lexemes)

-- all sources, numbered from one
abbrev pub AreMade : BTreeSet Place → List ℕ → ℕ → List SourceFile → List SourceFile → Type 0
AreMade set new n [] [] = Unit {0}
AreMade set new n [] (out ∷ outs) = ⊥
AreMade set new n (old ∷ olds) [] = ⊥
AreMade set new n (old ∷ olds) (out ∷ outs) = IsMade set new n old out × AreMade set new (suc n) olds outs
