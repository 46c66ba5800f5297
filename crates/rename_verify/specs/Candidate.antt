-- The candidate: the renaming that the words of the new sources suggest (the OCaml manual, "Lexical conventions").
use Rattle.std.specs.Prelude.{◌≡◌, ◌⊎◌, ℕ, zero, suc, List, [], ◌∷◌, ◌||◌, not, Option, Some, None, map, filter, slice_get, unwrap_or, if◌then◌else◌}
use Rattle.std.specs.Str.{bytes_eq}
use Rattle.rotor_base.specs.declared.place.Place.{Place}
use Rattle.rotor_base.specs.declared.source.SourceFile.{SourceFile}
use Rattle.rotor_base.specs.declared.token.Class.{Class}
use Rattle.rotor_base.specs.declared.token.Class.TheVariants as class
use Rattle.ml_lexer.specs.Lexed.{Lexeme, Lexed}
use Rattle.shape_core.specs.Shape.{Name}
use Rattle.binding_model.specs.Renaming.{Renaming}
use Rattle.rename_survey.specs.declared.answer.Binder.{Binder}
use Rattle.rename_verify.specs.Changed.{Changed}

-- the lexemes that bytes are cut into; none, if they are not cut
abbrev pub AreLexemes : List ℕ → List Lexeme → Type 0
AreLexemes bytes xs = Lexed bytes xs ⊎ (((ys : List Lexeme) → Lexed bytes ys → ⊥) × (xs ≡ []))

-- the same of each source
abbrev pub AreLexemesOf : List SourceFile → List (List Lexeme) → Type 0
AreLexemesOf [] [] = Unit {0}
AreLexemesOf [] (xs ∷ lists) = ⊥
AreLexemesOf (source ∷ sources) [] = ⊥
AreLexemesOf (source ∷ sources) (xs ∷ lists) = AreLexemes source.bytes xs × AreLexemesOf sources lists

-- the lexeme of a token, which is counted from 1
abbrev pub lexeme_at : List Lexeme → ℕ → Option Lexeme
lexeme_at xs zero = None
lexeme_at xs (suc n) = slice_get xs n

-- the text of a lower-case word
abbrev pub if_lower : Class → List ℕ → Option Name
if_lower class.Lower text = Some text
if_lower c text = None

abbrev pub lower_word : Option Lexeme → Option Name
lower_word None = None
lower_word (Some x) = if_lower x.class x.bytes

-- the lower-case word at a place, or none
abbrev pub word_at : List (List Lexeme) → Place → Option Name
word_at lists p = lower_word (lexeme_at (unwrap_or (slice_get lists p.file) []) p.token)

-- the name that the candidate gives a binder: the word of the same token, and its own name if there is none, or if it
-- is an operator or a pun
abbrev pub given_name : List (List Lexeme) → Binder → Name
given_name lists b = if b.operator || b.pun then b.name else unwrap_or (word_at lists b.at) b.name

-- the candidate
abbrev pub candidate : List (List Lexeme) → List Binder → Renaming
candidate lists bs = map (λ b. (b.at, given_name lists b)) bs

-- the binders that the candidate changes
abbrev pub changes : List (List Lexeme) → List Binder → List Changed
changes lists bs = filter (λ c. not (bytes_eq c.1 c.2)) (map (λ b. (b.at, b.name, given_name lists b)) bs)
