-- The replies to what an editor asks at a place of a document (own).
use Rattle.std.specs.Prelude.{◌≡◌, List, ℕ, true, false, Option, Some, Ok, Err, Result, IfSome, option_map, string_bytes}
use Rattle.std.specs.FinMap.{get}
use Rattle.report.specs.Pieces.{Word}
use Rattle.rotor_base.specs.Files.{FileSet}
use Rattle.rotor_base.specs.Stem.{is_source_name}
use Rattle.rotor_base.specs.declared.refusal.LoadError.{LoadError}
use Rattle.tree_io.specs.Outside.{FileMap}
use Rattle.project_load.specs.Load.{loaded}
use Rattle.folder_messages.specs.Folder.{message_of}
use Rattle.text_places.specs.declared.counting.Position.{Position}
use Rattle.document_uris.specs.Uris.{IsFile}
use Rattle.document_uris.specs.declared.place.FilePlace.{FilePlace}
use Rattle.messages.specs.declared.parts.Message.{Message}
use Rattle.open_documents.specs.Document.{is_known}
use Rattle.open_documents.specs.Documents.{AreKnown, DocumentMap, laid}
use Rattle.open_documents.specs.Workspace.{documents_in}
use Rattle.open_documents.specs.declared.workspace.Workspace.{Workspace}
use Rattle.lsp_answers.specs.declared.answer.Answer.{Answer}
use Rattle.lsp_answers.specs.declared.answer.Failure.{Failure}
use Rattle.requests.specs.declared.asked.Query.{Query}
use Rattle.requests.specs.declared.client.Client.{Client}
use Rattle.requests.specs.declared.spot.Spot.{Spot}
use Rattle.query_failures.specs.Folder.{IsFolderFailure}
use Rattle.document_answers.specs.Over.{RepliesOver}
use Rattle.document_answers.specs.Refused.{IsRefused, IsRefusedAs, no_source_text, unknown_text, unread_text}

-- The reply at a place of a source of a folder, under the documents that the editor holds there. All of their texts are known,
-- and the files are those that the folder loads as with the texts in place of its files; else the query is refused.
pub data RepliesIn (content : Option FileMap) (client : Client) (folder : Word) (held : DocumentMap) (name : Word) (here : Position)
    (asked : Query Word) (reply : Result Answer Failure) : Type 0 where
  unknown : (other : Word) → option_map is_known (get held other) ≡ Some false → IsRefusedAs asked (unknown_text other) reply
      → RepliesIn content client folder held name here asked reply
  unread : AreKnown held → IsRefusedAs asked unread_text reply → RepliesIn content client folder held name here asked reply
  no_project : (why : LoadError) (message : Option Message) → AreKnown held
      → IfSome content (λ there. (loaded (laid held there) ≡ Err why) × (message ≡ message_of why (laid held there)))
      → IsRefused asked (IsFolderFailure why message) reply → RepliesIn content client folder held name here asked reply
  project : (files : FileSet) → AreKnown held → IfSome content (λ there. loaded (laid held there) ≡ Ok files)
      → RepliesOver client folder held name files here asked reply → RepliesIn content client folder held name here asked reply

-- the same at a place of a file of one of these folders
abbrev pub RepliesFor : (List ℕ → Option FileMap) → Client → DocumentMap → FilePlace → Position → Query Word → Result Answer Failure → Type 0
RepliesFor folders client held file here asked =
    RepliesIn (folders (string_bytes file.folder)) client (string_bytes file.folder) held (string_bytes file.name) here asked

-- The reply to a query at a place of a document, over these folders, for this client, under these documents. The document is a
-- source of a folder; else the query is refused.
pub data Replies (folders : List ℕ → Option FileMap) (client : Client) (workspace : Workspace) (spot : Spot Word) (asked : Query Word)
    (reply : Result Answer Failure) : Type 0 where
  no_file : ((folder name : Word) → ¬ (IsFile spot.uri folder name)) → IsRefusedAs asked no_source_text reply
      → Replies folders client workspace spot asked reply
  no_source : (folder name : Word) → IsFile spot.uri folder name → is_source_name name ≡ false → IsRefusedAs asked no_source_text reply
      → Replies folders client workspace spot asked reply
  source : (folder name : Word) → IsFile spot.uri folder name → is_source_name name ≡ true
      → RepliesIn (folders folder) client folder (documents_in workspace folder) name spot.position asked reply
      → Replies folders client workspace spot asked reply
