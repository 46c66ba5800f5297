-- What notifications do to the documents (Language Server Protocol 3.17, "Text Document Synchronization").
use Rattle.std.specs.Prelude.{◌≡◌, ◌⊎◌, ℕ, ℤ, List, true, Option, Some, None, String, string_bytes, ⊤}
use Rattle.std.specs.FinMap.{insert, remove}
use Rattle.std.specs.declared.alloc.Global.{Global}
use Rattle.document_uris.specs.Uris.{IsFile}
use Rattle.open_documents.specs.Documents.{changed_in}
use Rattle.open_documents.specs.Workspace.{KeepsFolders, SetsFolder, documents_in}
use Rattle.open_documents.specs.declared.document.Document.{Document}
use Rattle.open_documents.specs.declared.document.OpenText.{OpenText}
use Rattle.open_documents.specs.declared.document.OpenText.TheVariants.{Known, Unknown}
use Rattle.open_documents.specs.declared.workspace.Workspace.{Workspace}
use Rattle.project_load.specs.Listed.{is_listed_name}
use Rattle.requests.specs.declared.notice.Change.{Change}
use Rattle.requests.specs.declared.notice.Change.TheVariants.{Full, Part}
use Rattle.requests.specs.declared.notice.Notification.{Notification}
use Rattle.requests.specs.declared.notice.Notification.TheVariants as notice

-- the URI names a source or the manifest
pub record IsProjectFile (uri folder name : List ℕ) : Type 0 where
  pub file : IsFile uri folder name
  pub listed : is_listed_name name ≡ true

-- this holds of the file that a URI names, and if it names none, no document has changed
abbrev pub OfFile : List ℕ → (List ℕ → List ℕ → Type 0) → Workspace → Workspace → Type 0
OfFile uri P old new =
    ((folder : List ℕ) × (name : List ℕ) × IsProjectFile uri folder name × P folder name)
    ⊎ (((folder name : List ℕ) → ¬ (IsProjectFile uri folder name)) × KeepsFolders old new)

-- the text of a document that was opened: unknown if the editor said none
abbrev pub IsText : Option (List ℕ) → OpenText → Type 0
IsText None (Known held) = ⊥
IsText None Unknown = ⊤
IsText (Some text) (Known held) = string_bytes held ≡ text
IsText (Some text) Unknown = ⊥

-- the text after the last change: unknown after a part
abbrev pub IsChange : Option (Change (List ℕ)) → Option OpenText → Type 0
IsChange None None = ⊤
IsChange None (Some text) = ⊥
IsChange (Some change) None = ⊥
IsChange (Some (Full text)) (Some held) = IsText (Some text) held
IsChange (Some Part) (Some held) = IsText None held

pub record IsDocument (uri : List ℕ) (version : Option ℤ) (text : Option (List ℕ)) (document : Document) : Type 0 where
  pub link : string_bytes document.uri ≡ uri
  pub said : document.version ≡ version
  pub held : IsText text document.text

-- the document is now held as it was opened
abbrev pub Opens : List ℕ → Option ℤ → Option (List ℕ) → Workspace → Workspace → Type 0
Opens uri version text old new =
    OfFile uri (λ folder name.
    (document : Document) × IsDocument uri version text document
    × SetsFolder folder (insert (documents_in old folder) name document) old new)
    old new

-- the document is now held with its new version, and with its new text if it has one
abbrev pub Changes : List ℕ → Option ℤ → Option (Change (List ℕ)) → Workspace → Workspace → Type 0
Changes uri version last old new =
    OfFile uri (λ folder name.
    (link : String Global) × (text : Option OpenText) × (string_bytes link ≡ uri) × IsChange last text
    × SetsFolder folder (changed_in (documents_in old folder) name link version text) old new)
    old new

-- the document is no more held
abbrev pub Closes : List ℕ → Workspace → Workspace → Type 0
Closes uri old new = OfFile uri (λ folder name. SetsFolder folder (remove (documents_in old folder) name) old new) old new

abbrev pub Notes : Notification (List ℕ) → Workspace → Workspace → Type 0
Notes notice.Exit old new = KeepsFolders old new
Notes (notice.Open uri version text) old new = Opens uri version text old new
Notes (notice.Change uri version last) old new = Changes uri version last old new
Notes (notice.Close uri) old new = Closes uri old new
Notes notice.Other old new = KeepsFolders old new
