-- The numbers of a response are integers.
use Rattle.std.proofs.Common.{◌≡◌, ◌∙◌, ◌||◌, ℕ, ℤ, pos, negsuc, false, Bool, true, List, [], ◌∷◌, map, Option, Some, None, Result, Ok, Err, refl, ap}
use Rattle.std.proofs.Common.{string_bytes}
use Rattle.std.specs.Ordering.{nat_cmp, match_ordering}
use Rattle.std.specs.declared.cmp.Ordering.{Ordering}
use Rattle.std.specs.declared.cmp.Ordering.TheVariants.{Less, Equal, Greater}
use Rattle.std.specs.Cmp.Lexicographic.{slice_cmp}
use Rattle.serde_json.specs.Data.{Data, string, Members, member, no_members, put}
use Rattle.serde_json.specs.View.{items_of}
use Rattle.serde_json.specs.Written.{compact_text, has_float, items_have_float, members_have_float}
use Rattle.serde_json.specs.declared.value.Value.{Value}
use Rattle.source_edits.specs.declared.text_edit.TextEdit.{TextEdit}
use Rattle.lsp_answers.specs.declared.answer.Id.{Id}
use Rattle.lsp_answers.specs.declared.answer.Id.TheVariants.{Number, Text}
use Rattle.lsp_answers.specs.declared.answer.ErrorCode.{ErrorCode}
use Rattle.lsp_answers.specs.declared.answer.Encoding.{Encoding}
use Rattle.lsp_answers.specs.declared.answer.Failure.{Failure}
use Rattle.lsp_answers.specs.declared.answer.Location.{Location}
use Rattle.lsp_answers.specs.declared.answer.Highlight.{Highlight}
use Rattle.lsp_answers.specs.declared.answer.DocumentEdits.{DocumentEdits}
use Rattle.lsp_answers.specs.declared.answer.Answer.{Answer}
use Rattle.lsp_answers.specs.declared.answer.Answer.TheVariants as answer
use Rattle.lsp_answers.specs.Json.{edit_data, edits_data, version_data, document_data, changes_members, location_data, highlight_data, started_data}
use Rattle.lsp_answers.specs.Json.{answer_data, code_number, integer_data, failed_with, noted_data, optional_id_data, response_data}
use Rattle.lsp_answers.specs.Plain.{IsPlain, IsPlainNote}

integer_plain : (z : ℤ) → has_float (integer_data z) ≡ false
integer_plain (pos n) = refl
integer_plain (negsuc n) = refl

edits_plain : (es : List TextEdit) → items_have_float (items_of (map edit_data es)) ≡ false
edits_plain [] = refl
edits_plain (e ∷ es) = edits_plain es

version_plain : (version : Option ℤ) → has_float (version_data version) ≡ false
version_plain None = refl
version_plain (Some z) = integer_plain z

documents_plain : (ds : List DocumentEdits) → items_have_float (items_of (map document_data ds)) ≡ false
documents_plain [] = refl
documents_plain (d ∷ ds) = rw (edits_plain d.edits.items, version_plain d.version) (documents_plain ds)

ordering_plain : (o : Ordering) (a b c : Members) → members_have_float a ≡ false → members_have_float b ≡ false → members_have_float c ≡ false
    → members_have_float (match_ordering o a b c) ≡ false
ordering_plain Less a b c x y z = x
ordering_plain Equal a b c x y z = y
ordering_plain Greater a b c x y z = z

neither : (a b : Bool) → (a || b) ≡ false → (a ≡ false) × (b ≡ false)
neither true b e = absurd cc
neither false b e = (refl, e)

both : (a b : Bool) → a ≡ false → b ≡ false → (a || b) ≡ false
both a b e f = ap (λ x. x || b) e ∙ f

put_plain : (k : List ℕ) (d : Data) (ms : Members) → has_float d ≡ false → members_have_float ms ≡ false → members_have_float (put k d ms) ≡ false
put_plain k d no_members e h = both (has_float d) false e refl
put_plain k d (member l c ms) e h =
    let parts = neither (has_float c) (members_have_float ms) h in
    ordering_plain (slice_cmp nat_cmp k l) (member k d (member l c ms)) (member l d ms) (member l c (put k d ms))
    (both (has_float d) (has_float c || members_have_float ms) e h) (both (has_float d) (members_have_float ms) e parts.1)
    (both (has_float c) (members_have_float (put k d ms)) parts.0 (put_plain k d ms e parts.1))

changes_plain : (ds : List DocumentEdits) (found : Members) → members_have_float found ≡ false → members_have_float (changes_members found ds) ≡ false
changes_plain [] found h = h
changes_plain (d ∷ ds) found h =
    changes_plain ds (put (string_bytes d.uri) (edits_data d.edits.items) found)
    (put_plain (string_bytes d.uri) (edits_data d.edits.items) found (edits_plain d.edits.items) h)

locations_plain : (ls : List Location) → items_have_float (items_of (map location_data ls)) ≡ false
locations_plain [] = refl
locations_plain (l ∷ ls) = locations_plain ls

highlights_plain : (hs : List Highlight) → items_have_float (items_of (map highlight_data hs)) ≡ false
highlights_plain [] = refl
highlights_plain (h ∷ hs) = highlights_plain hs

started_plain : (encoding : Encoding) (prepares : Bool) → has_float (started_data encoding prepares) ≡ false
started_plain encoding true = refl
started_plain encoding false = refl

answer_plain : (a : Answer) → has_float (answer_data a) ≡ false
answer_plain answer.Nothing = refl
answer_plain (answer.Started encoding prepares) = started_plain encoding prepares
answer_plain (answer.Word range word) = refl
answer_plain (answer.Changes documents) = rw (changes_plain documents.items no_members refl) refl
answer_plain (answer.VersionedChanges documents) = rw (documents_plain documents.items) refl
answer_plain (answer.Definition location) = refl
answer_plain (answer.References locations) = locations_plain locations.items
answer_plain (answer.Highlights highlights) = highlights_plain highlights.items

failed_plain : (kind : ErrorCode) (note : Option Value) (message : List ℕ) → IsPlainNote note
    → has_float (failed_with kind (noted_data note) (string message)) ≡ false
failed_plain kind None message h = rw (integer_plain (code_number kind)) refl
failed_plain kind (Some value) message h = rw (integer_plain (code_number kind), h) refl

id_plain : (id : Option Id) → has_float (optional_id_data id) ≡ false
id_plain None = refl
id_plain (Some (Number z)) = integer_plain z
id_plain (Some (Text text)) = refl

response_plain : (id : Option Id) (reply : Result Answer Failure) → IsPlain reply → has_float (response_data id reply) ≡ false
response_plain id (Ok a) h = rw (id_plain id, answer_plain a) refl
response_plain id (Err f) h = rw (id_plain id, failed_plain f.code f.«data» (string_bytes f.message) h) refl

-- the text of a response
pub text_of : (id : Option Id) (reply : Result Answer Failure) (made : Data) (text : List ℕ) → IsPlain reply → made ≡ response_data id reply
    → (has_float made ≡ false → text ≡ compact_text made) → text ≡ compact_text (response_data id reply)
text_of id reply made text h is t = t (ap has_float is ∙ response_plain id reply h) ∙ ap compact_text is
