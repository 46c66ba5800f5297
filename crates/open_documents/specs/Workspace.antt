-- The documents of all folders (own).
use Rattle.std.specs.Prelude.{◌≡◌, ℕ, List, Option, Some, None, if◌then◌else◌}
use Rattle.std.specs.BTreeMap.{get_by_text}
use Rattle.std.specs.FinMap.{empty}
use Rattle.std.specs.Str.{bytes_eq}
use Rattle.open_documents.specs.Documents.{DocumentMap, documents}
use Rattle.open_documents.specs.declared.documents.Documents.{Documents}
use Rattle.open_documents.specs.declared.workspace.Workspace.{Workspace}

-- the documents of a folder; none if the editor holds none there
abbrev pub documents_or_none : Option Documents → DocumentMap
documents_or_none None = empty
documents_or_none (Some held) = documents held

-- the documents of the folder with this path
abbrev pub documents_in : Workspace → List ℕ → DocumentMap
documents_in workspace path = documents_or_none (get_by_text workspace.folders path)

-- the documents of the folder with this path are now these, and those of the other folders are as they were
abbrev pub SetsFolder : List ℕ → DocumentMap → Workspace → Workspace → Type 0
SetsFolder path map old new =
    (other : List ℕ) → documents_in new other ≡ (if bytes_eq path other then map else documents_in old other)

-- no document has changed
abbrev pub KeepsFolders : Workspace → Workspace → Type 0
KeepsFolders old new = (path : List ℕ) → documents_in new path ≡ documents_in old path
