-- What is said of the value at a line and a column of a source (own).
use Rattle.std.specs.Prelude.{◌≡◌, ◌⊎◌, ℕ, List, [], ◌∷◌, Some, None, Err, codes, slice_get, true}
use Rattle.std.specs.Fmt.{decimal}
use Rattle.report.specs.Pieces.{Word, join}
use Rattle.rotor_base.specs.Files.{FileSet}
use Rattle.rotor_base.specs.declared.place.Place.{Place}
use Rattle.rotor_base.specs.declared.refusal.Refusal.{Refusal}
use Rattle.rotor_base.specs.declared.source.SourceFile.{SourceFile}
use Rattle.rotor_base.specs.declared.target.Target.{Target}
use Rattle.rotor_base.specs.declared.target.Target.TheVariants as target
use Rattle.text_places.specs.declared.counting.Counting.TheVariants.{People}
use Rattle.text_places.specs.declared.counting.Position.{Position}
use Rattle.text_places.specs.Marks.{offset_of}
use Rattle.cli_words.specs.Target.{target_of}
use Rattle.ml_trees.specs.Tree.{UnitTree}
use Rattle.rename_model.specs.Target.{number_of}
use Rattle.rename_files.specs.Answer.{Accepts, Checks}
use Rattle.value_at.specs.declared.value.ValueAt.{ValueAt}
use Rattle.value_at.specs.declared.value.ValueAt.TheVariants as value
use Rattle.value_at.specs.Cursor.{token_at}
use Rattle.value_at.specs.Value.{IsValueAt}
use Rattle.messages.specs.declared.kinds.Kind.TheVariants as kind
use Rattle.messages.specs.declared.parts.Message.{Message}
use Rattle.messages.specs.Shown.{shown_word_of}
use Rattle.refusal_words.specs.Cut.{AreCuts, Cut}
use Rattle.refusal_words.specs.Parts.{placed}
use Rattle.refusal_words.specs.Stretches.{place_spot, word_at}
use Rattle.refusal_words.specs.Target.{nameless}
use Rattle.refusal_words.specs.Unnamed.{no_line, no_source, no_token_at}
use Rattle.explain.specs.declared.ending.Ending.TheVariants.{Done, Refused}
use Rattle.explain.specs.declared.explanation.Explanation.{Explanation}
use Rattle.explain.specs.Lines.{place_message, place_word}
use Rattle.explain.specs.Says.{SaysCheck}
use Rattle.explain.specs.Explanation.{explanation_of_message}
use Rattle.explain.specs.Valueless.{valueless_text}

-- of a place that has no target: its message
abbrev pub refused_at : Message → Explanation
refused_at message = explanation_of_message Refused (Some message)

-- of a word that is no place
abbrev pub no_place : Word → Message
no_place word = nameless (join (codes "`" ∷ shown_word_of word ∷ codes "` is no FILE:LINE:COLUMN" ∷ []))

-- FILE#N, the target that names a token by its source and its number, on a line
abbrev pub target_line : List Cut → Place → Word
target_line cuts p = join ((place_spot cuts p).file ∷ codes "#" ∷ decimal p.token ∷ codes "\n" ∷ [])

-- the place of a declaration, for tools
abbrev pub declaration_message : List Cut → Place → Message
declaration_message cuts p = place_message cuts (place_word true) p

-- of a declaration: its target, for people, and its place, for tools
abbrev pub explanation_of_target : List Cut → Place → Explanation
explanation_of_target cuts p = record { ending = Done; messages = []; text = target_line cuts p; places = declaration_message cuts p ∷ [] }

-- the message of a token that declares and uses no value of the folder
abbrev pub valueless : List Cut → Place → ValueAt → Message
valueless cuts p found = placed kind.NoTarget (valueless_text (word_at cuts p) found) (place_spot cuts p) [] None

-- what is said of a token: the target of the value that it declares or uses; or that it has none
pub data SaysPlace (us : List UnitTree) (cuts : List Cut) (p : Place) (explanation : Explanation) : Type 0 where
  declared : (d : Place) → IsValueAt us p (value.Value d) → explanation ≡ explanation_of_target cuts d → SaysPlace us cuts p explanation
  nothing : (other : ValueAt) → IsValueAt us p other → ((d : Place) → other ≡ value.Value d → ⊥) → explanation ≡ refused_at (valueless cuts p other)
      → SaysPlace us cuts p explanation

-- what is said of a line and a column of a source, by its lexemes: of the token of a cursor there
pub data SaysInside (us : List UnitTree) (cuts : List Cut) (number : ℕ) (cut : Cut) (here : Position) (explanation : Explanation) : Type 0 where
  past_lines : offset_of People here cut.bytes ≡ None → explanation ≡ refused_at (nameless (no_line cut.name here.line))
      → SaysInside us cuts number cut here explanation
  between : (offset : ℕ) → offset_of People here cut.bytes ≡ Some offset → token_at offset cut.lexemes ≡ None
      → explanation ≡ refused_at (nameless (no_token_at cut.name here.line here.column)) → SaysInside us cuts number cut here explanation
  at_token : (offset token : ℕ) → offset_of People here cut.bytes ≡ Some offset → token_at offset cut.lexemes ≡ Some token
      → SaysPlace us cuts (record { file = number; token = token }) explanation → SaysInside us cuts number cut here explanation

-- the same of the source of a number, from 0
abbrev pub SaysCut : List UnitTree → List Cut → ℕ → Position → Explanation → Type 0
SaysCut us cuts number here explanation = (cut : Cut) × (slice_get cuts number ≡ Some cut) × SaysInside us cuts number cut here explanation

-- the same of the source of a name
pub data SaysSpot (files : List SourceFile) (us : List UnitTree) (cuts : List Cut) (file : Word) (here : Position)
    (explanation : Explanation) : Type 0 where
  lacks : number_of files file ≡ None → explanation ≡ refused_at (nameless (no_source file)) → SaysSpot files us cuts file here explanation
  has : (number : ℕ) → number_of files file ≡ Some number → SaysCut us cuts number here explanation → SaysSpot files us cuts file here explanation

abbrev pub spot_at : ℕ → ℕ → Position
spot_at line column = record { line = line; column = column }

-- what is said of a word that is this target: a word `FILE:LINE:COLUMN` alone is a place
abbrev pub SaysTarget : List SourceFile → List UnitTree → List Cut → Word → Target → Explanation → Type 0
SaysTarget files us cuts word (target.Spot file line column) explanation = SaysSpot files us cuts file (spot_at line column) explanation
SaysTarget files us cuts word (target.At file token) explanation = explanation ≡ refused_at (no_place word)
SaysTarget files us cuts word (target.Dotted path) explanation = explanation ≡ refused_at (no_place word)

-- what is said of a word over files that are accepted as this project, whose sources have these lexemes
pub record SaysOver (files : FileSet) (word : Word) (explanation : Explanation) : Type 0 where
  pub project : List UnitTree
  pub cuts : List Cut
  pub accepts : Accepts files project
  pub cut : AreCuts files.entries cuts
  pub says : SaysTarget files.entries project cuts word (target_of word) explanation

-- `check` refuses the files, and this is what is said of it
abbrev pub IsRejected : FileSet → Explanation → Type 0
IsRejected files explanation = ((why : Refusal) × Checks files (Err why)) × SaysCheck files explanation

-- `at`: what is said of the files that are refused, or of the word
abbrev pub SaysAt : FileSet → Word → Explanation → Type 0
SaysAt files word explanation = IsRejected files explanation ⊎ SaysOver files word explanation
