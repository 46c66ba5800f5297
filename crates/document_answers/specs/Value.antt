-- The replies at a token (Language Server Protocol 3.17, "Language Features"; own where it says the values).
use Rattle.std.specs.Prelude.{◌≡◌, ℕ, ◌-◌, List, Bool, true, false, Option, None, Some, Result, Ok, map, slice_get, if◌then◌else◌}
use Rattle.report.specs.Pieces.{Word}
use Rattle.rotor_base.specs.Files.{FileSet}
use Rattle.rotor_base.specs.declared.place.Facts.{Facts}
use Rattle.rotor_base.specs.declared.place.Foot.{Foot}
use Rattle.rotor_base.specs.declared.place.Place.{Place}
use Rattle.rotor_base.specs.declared.token.Class.{Class}
use Rattle.rotor_base.specs.declared.token.Class.TheVariants.{Label, Lower}
use Rattle.ml_lexer.specs.Lexed.{Lexeme}
use Rattle.ml_trees.specs.Tree.{UnitTree}
use Rattle.binding_model.specs.Facts.{facts as facts_of}
use Rattle.dependency_kernel.specs.Foot.{IsFoot}
use Rattle.refusal_words.specs.Cut.{Cut}
use Rattle.refusal_words.specs.Stretches.{word_at}
use Rattle.value_at.specs.declared.footprint_places.ValuePlace.{ValuePlace}
use Rattle.value_at.specs.declared.value.ValueAt.{ValueAt}
use Rattle.value_at.specs.declared.value.ValueAt.TheVariants as value
use Rattle.value_at.specs.Places.{places_of}
use Rattle.value_at.specs.Value.{IsValueAt}
use Rattle.lsp_answers.specs.declared.answer.Answer.{Answer}
use Rattle.lsp_answers.specs.declared.answer.Answer.TheVariants as answer
use Rattle.lsp_answers.specs.declared.answer.Failure.{Failure}
use Rattle.requests.specs.declared.asked.Query.{Query}
use Rattle.requests.specs.declared.asked.Query.TheVariants as query
use Rattle.query_failures.specs.Renaming.{IsValuelessFailure}
use Rattle.document_scene.specs.Places.{highlights_of, location_at, location_words, locations_of, range_at}
use Rattle.document_scene.specs.Scene.{Telling}
use Rattle.document_answers.specs.Refused.{Fails, Succeeds}
use Rattle.document_answers.specs.Renaming.{RepliesRename}

-- the lexeme is a lower-case word or a label, and no operator
abbrev pub is_word_class : Class → Bool
is_word_class Lower = true
is_word_class Label = true
is_word_class _ = false

abbrev pub is_word_among : Option Lexeme → Bool
is_word_among None = false
is_word_among (Some x) = is_word_class x.class

abbrev pub is_word_of : Option Cut → ℕ → Bool
is_word_of None number = false
is_word_of (Some cut) number = is_word_among (slice_get cut.lexemes (number - 1))

abbrev pub is_word : List Cut → Place → Bool
is_word cuts p = is_word_of (slice_get cuts p.file) p.token

-- the word that a renaming would replace, with its range; of an operator, nothing
abbrev pub prepared : Telling → Place → Answer
prepared t p = if is_word t.cuts p then answer.Word (range_at t p) (word_at t.cuts p) else answer.Nothing

-- the places of the footprint of a declaration
abbrev pub ArePlaces : Facts → Place → List ValuePlace → Type 0
ArePlaces facts d places = (foot : Foot) × IsFoot facts.links d foot × (places ≡ places_of facts.refs foot)

-- the answer has the locations of these places that are wanted
abbrev pub AreReferences : Telling → Bool → List ValuePlace → Answer → Type 0
AreReferences t with_declarations places (answer.References list) = map location_words list.items ≡ locations_of t with_declarations places
AreReferences t with_declarations places other = ⊥

-- the answer has the location of a declaration
abbrev pub IsDefinition : Telling → Place → Answer → Type 0
IsDefinition t d (answer.Definition location) = location_words location ≡ location_at t d
IsDefinition t d other = ⊥

-- the answer has the highlights of these places in a source
abbrev pub AreHighlights : Telling → ℕ → List ValuePlace → Answer → Type 0
AreHighlights t file places (answer.Highlights list) = list.items ≡ highlights_of t file places
AreHighlights t file places other = ⊥

-- a query is a renaming without a new name
abbrev pub is_nameless : Query Word → Bool
is_nameless (query.Rename None) = true
is_nameless asked = false

-- The reply to a query at a token that declares or uses the value of a declaration `d`. A renaming without a new name is
-- refused before.
abbrev pub RepliesValue : FileSet → List UnitTree → Telling → Bool → Place → Place → Query Word → Result Answer Failure → Type 0
RepliesValue files us told versions p d query.PrepareRename reply = reply ≡ Ok (prepared told p)
RepliesValue files us told versions p d (query.Rename None) reply = ⊥
RepliesValue files us told versions p d (query.Rename (Some new)) reply = RepliesRename files told versions p.file d new reply
RepliesValue files us told versions p d (query.References with_declarations) reply =
    (places : List ValuePlace) × ArePlaces (facts_of us) d places × Succeeds (AreReferences told with_declarations places) reply
RepliesValue files us told versions p d query.Definition reply = Succeeds (IsDefinition told d) reply
RepliesValue files us told versions p d query.DocumentHighlight reply =
    (places : List ValuePlace) × ArePlaces (facts_of us) d places × Succeeds (AreHighlights told p.file places) reply

-- The reply where no value is: nothing; to a renaming, that there is none.
abbrev pub RepliesNothing : List Cut → Option Place → ValueAt → Query Word → Result Answer Failure → Type 0
RepliesNothing cuts p found (query.Rename name) reply = Fails (IsValuelessFailure cuts p found) reply
RepliesNothing cuts p found asked reply = reply ≡ Ok answer.Nothing

-- the reply to a query at a token: of the value that it declares or uses; or that it has none
pub data RepliesToken (files : FileSet) (us : List UnitTree) (told : Telling) (versions : Bool) (p : Place) (asked : Query Word)
    (reply : Result Answer Failure) : Type 0 where
  has : (d : Place) → IsValueAt us p (value.Value d) → RepliesValue files us told versions p d asked reply
      → RepliesToken files us told versions p asked reply
  lacks : (found : ValueAt) → IsValueAt us p found → ((d : Place) → found ≡ value.Value d → ⊥)
      → RepliesNothing told.cuts (Some p) found asked reply → RepliesToken files us told versions p asked reply
