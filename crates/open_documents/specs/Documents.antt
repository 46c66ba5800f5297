-- The documents of a folder that an editor holds, and the folder with their texts in place of its files (own).
use Rattle.std.specs.Prelude.{◌≡◌, ℤ, ℕ, List, [], ◌∷◌, true, String, string_bytes, Option, Some}
use Rattle.std.specs.Ordering.{nat_cmp}
use Rattle.std.specs.Cmp.Lexicographic.{slice_cmp}
use Rattle.std.specs.FinMap.{FinMap, empty, entries, get, insert}
use Rattle.std.specs.declared.alloc.Global.{Global}
use Rattle.tree_io.specs.Outside.{FileMap}
use Rattle.open_documents.specs.Document.{changed_from, is_known, text_bytes}
use Rattle.open_documents.specs.declared.document.Document.{Document}
use Rattle.open_documents.specs.declared.document.OpenText.{OpenText}
use Rattle.open_documents.specs.declared.documents.Documents.{Documents}

-- documents under the names of their files
abbrev pub DocumentMap : Type 0
DocumentMap = FinMap (slice_cmp nat_cmp) Document

-- the map of some entries
abbrev pub gathered : List (String Global × Document) → DocumentMap
gathered [] = empty
gathered (e ∷ es) = insert (gathered es) (string_bytes e.0) e.1

-- the documents that are held
abbrev pub documents : Documents → DocumentMap
documents folder = gathered folder.held.entries

-- the documents after the change of one; if it is not open, the change opens it
abbrev pub changed_in : DocumentMap → List ℕ → String Global → Option ℤ → Option OpenText → DocumentMap
changed_in map name uri version text = insert map name (changed_from (get map name) uri version text)

-- each text is known
abbrev pub AreKnown : DocumentMap → Type 0
AreKnown map = (name : List ℕ) (document : Document) → get map name ≡ Some document → is_known document ≡ true

-- files after some were set to these texts, the first one last
abbrev pub set_texts : FileMap → List (List ℕ × Document) → FileMap
set_texts files [] = files
set_texts files (e ∷ es) = insert (set_texts files es) e.0 (text_bytes e.1.text)

-- a folder with the texts of these documents in place of its files, also of those that it lacks
abbrev pub laid : DocumentMap → FileMap → FileMap
laid map files = set_texts files (entries map)
