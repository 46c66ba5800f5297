-- The replies over the files of a folder (own).
use Rattle.std.specs.Prelude.{◌≡◌, ℕ, List, Bool, true, false, None, Some, Result, slice_get}
use Rattle.report.specs.Pieces.{Word}
use Rattle.rotor_base.specs.Files.{FileSet}
use Rattle.rotor_base.specs.declared.refusal.Refusal.{Refusal}
use Rattle.text_places.specs.declared.counting.Counting.{Counting}
use Rattle.text_places.specs.declared.counting.Counting.TheVariants.{Utf16, Utf8}
use Rattle.text_places.specs.declared.counting.Position.{Position}
use Rattle.text_places.specs.Marks.{offset_of}
use Rattle.ml_trees.specs.Tree.{UnitTree}
use Rattle.rename_model.specs.Target.{number_of}
use Rattle.rename_files.specs.Answer.{Accepts, Rejects}
use Rattle.open_documents.specs.Documents.{DocumentMap}
use Rattle.refusal_words.specs.Cut.{AreCuts, Cut}
use Rattle.value_at.specs.Cursor.{token_at}
use Rattle.value_at.specs.declared.value.ValueAt.TheVariants.{NoValue}
use Rattle.lsp_answers.specs.declared.answer.Answer.{Answer}
use Rattle.lsp_answers.specs.declared.answer.Failure.{Failure}
use Rattle.requests.specs.declared.asked.Query.{Query}
use Rattle.requests.specs.declared.client.Client.{Client}
use Rattle.requests.specs.declared.client.Encoding.{Encoding}
use Rattle.requests.specs.declared.client.Encoding.TheVariants as encoding
use Rattle.query_failures.specs.Folder.{IsProjectFailure}
use Rattle.document_scene.specs.Scene.{Telling}
use Rattle.document_answers.specs.Refused.{IsBad, IsRefused, IsRefusedAs, lacking_text, no_character_text, no_name_text}
use Rattle.document_answers.specs.Value.{RepliesNothing, RepliesToken, is_nameless}

-- how the client counts columns
abbrev pub counting_of : Encoding → Counting
counting_of encoding.Utf8 = Utf8
counting_of encoding.Utf16 = Utf16

-- a folder as an answer shows it, of the files that it was read as
abbrev pub telling : Word → DocumentMap → FileSet → List Cut → Counting → Telling
telling folder held files cuts counting =
    record { folder = folder; held = held; sources = files.entries; cuts = cuts; counting = counting }

-- The reply at a position of a source, by its lexemes. The position names a byte, and a renaming has a new name; else the
-- parameters are bad.
pub data RepliesAt (files : FileSet) (us : List UnitTree) (told : Telling) (versions : Bool) (number : ℕ) (cut : Cut) (here : Position)
    (asked : Query Word) (reply : Result Answer Failure) : Type 0 where
  nowhere : offset_of told.counting here cut.bytes ≡ None → IsBad no_character_text reply
      → RepliesAt files us told versions number cut here asked reply
  nameless : (offset : ℕ) → offset_of told.counting here cut.bytes ≡ Some offset → is_nameless asked ≡ true → IsBad no_name_text reply
      → RepliesAt files us told versions number cut here asked reply
  between : (offset : ℕ) → offset_of told.counting here cut.bytes ≡ Some offset → is_nameless asked ≡ false
      → token_at offset cut.lexemes ≡ None → RepliesNothing told.cuts None NoValue asked reply
      → RepliesAt files us told versions number cut here asked reply
  at_token : (offset token : ℕ) → offset_of told.counting here cut.bytes ≡ Some offset → is_nameless asked ≡ false
      → token_at offset cut.lexemes ≡ Some token → RepliesToken files us told versions (record { file = number; token = token }) asked reply
      → RepliesAt files us told versions number cut here asked reply

-- the same, for the source of a number
abbrev pub RepliesInSource : FileSet → List UnitTree → Telling → Bool → ℕ → Position → Query Word → Result Answer Failure → Type 0
RepliesInSource files us told versions number here asked reply =
    (cut : Cut) × (slice_get told.cuts number ≡ Some cut) × RepliesAt files us told versions number cut here asked reply

-- The reply over the files of a folder. They have the source of this name, and are accepted as a project; else the query is
-- refused.
pub data RepliesOver (client : Client) (folder : Word) (held : DocumentMap) (name : Word) (files : FileSet) (here : Position) (asked : Query Word)
    (reply : Result Answer Failure) : Type 0 where
  lacking : number_of files.entries name ≡ None → IsRefusedAs asked (lacking_text name) reply
      → RepliesOver client folder held name files here asked reply
  rejected : (why : Refusal) → Rejects files why → IsRefused asked (IsProjectFailure files why) reply
      → RepliesOver client folder held name files here asked reply
  accepted : (us : List UnitTree) (cuts : List Cut) (number : ℕ) → number_of files.entries name ≡ Some number → Accepts files us
      → AreCuts files.entries cuts
      → RepliesInSource files us (telling folder held files cuts (counting_of client.encoding)) client.document_changes number here asked reply
      → RepliesOver client folder held name files here asked reply
