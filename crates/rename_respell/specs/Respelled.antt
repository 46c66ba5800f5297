-- Respell, on bytes: the sources of a project under a map of names (the OCaml manual, "Lexical conventions", "Names").
use Rattle.std.specs.Prelude.{◌≡◌, ℕ, suc, List, [], ◌∷◌, ◌++◌, take, drop, length, filter, not, Result, Ok, Err}
use Rattle.std.specs.Str.{bytes_eq}
use Rattle.rotor_base.specs.declared.place.Place.{Place}
use Rattle.rotor_base.specs.declared.refusal.Refusal.{Refusal}
use Rattle.rotor_base.specs.declared.source.SourceFile.{SourceFile}
use Rattle.rotor_base.specs.declared.token.Class.{Class}
use Rattle.rotor_base.specs.declared.token.Class.TheVariants as class
use Rattle.rotor_base.specs.Files.{FileSet}
use Rattle.ml_lexer.specs.Lexed.{Lexeme, Lexed}
use Rattle.ml_lexer.specs.Respelled.{respelled}
use Rattle.value_sites.specs.Places.{label_name}
use Rattle.value_sites.specs.Respelled.{Spelling}
use Rattle.ml_trees.specs.Tree.{UnitTree}
use Rattle.shape_core.specs.Shape.{Name}
use Rattle.shape_core.specs.Respell.{Words}
use Rattle.binding_model.specs.Facts.{facts}
use Rattle.binding_model.specs.Renaming.{Renaming, in_file, name_of, words_of}
use Rattle.rename_survey.specs.Resolved.{Resolves, Unresolved}

-- the entries of a map that give a binder a name other than its own
abbrev pub changed_from : (Place → Name) → Renaming → Renaming
changed_from old r = filter (λ e. not (bytes_eq e.1 (old e.0))) r

abbrev pub changed : List UnitTree → Renaming → Renaming
changed us r = changed_from (name_of us) r

-- a label with another word between its first byte and its colon
abbrev pub label_with : List ℕ → Name → List ℕ
label_with label word = take 1 label ++ (word ++ drop (suc (length (label_name label))) label)

-- the new text of a token: the new word, and in a label the new word of its word
abbrev pub new_text : (Name → Name) → Class → List ℕ → List ℕ
new_text word class.Label text = label_with text (word (label_name text))
new_text word _ text = word text

-- the new texts of tokens, numbered from this one
abbrev pub new_texts : Spelling → ℕ → List Lexeme → List (List ℕ)
new_texts word at [] = []
new_texts word at (x ∷ xs) = new_text (word at) x.class x.bytes ∷ new_texts word (suc at) xs

-- the bytes of a source with new words at its places; every byte between two tokens is as it was
pub record IsRespelledBytes (w : Words) (file : ℕ) (old new : List ℕ) : Type 0 where
  pub lexemes : List Lexeme
  pub cut : Lexed old lexemes
  pub bytes : new ≡ respelled old lexemes (new_texts (in_file w file) 1 lexemes)

-- the bytes of all sources, numbered from this one
abbrev pub AreRespelledBytes : Words → ℕ → List SourceFile → List (List ℕ) → Type 0
AreRespelledBytes w n [] [] = Unit {0}
AreRespelledBytes w n [] (new ∷ news) = ⊥
AreRespelledBytes w n (old ∷ olds) [] = ⊥
AreRespelledBytes w n (old ∷ olds) (new ∷ news) = IsRespelledBytes w n old.bytes new × AreRespelledBytes w (suc n) olds news

-- the words of a project under a map: a binder that the map changes, and a use of it, take the new name
abbrev pub mapped_words : List UnitTree → Renaming → Words
mapped_words us r = words_of (changed us r) (facts us).refs

-- `respell`: the new bytes of the sources of files that are read and resolved, or the first refusal
abbrev pub Respells : FileSet → Renaming → Result (List (List ℕ)) Refusal → Type 0
Respells files r (Ok sources) = (us : List UnitTree) × Resolves files us × AreRespelledBytes (mapped_words us r) 0 files.entries sources
Respells files r (Err why) = Unresolved files why
