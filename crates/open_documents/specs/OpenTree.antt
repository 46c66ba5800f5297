-- A folder with the documents of an editor in place of its files (own).
use Rattle.std.specs.Prelude.{ℕ, Option}
use Rattle.std.specs.Option.{option_map}
use Rattle.tree_io.specs.Outside.{FileMap}
use Rattle.open_documents.specs.Documents.{DocumentMap, documents, laid}
use Rattle.open_documents.specs.declared.open_tree.OpenTree.{OpenTree}

-- its documents
abbrev pub held_documents : {T : Type 0} → OpenTree T → DocumentMap
held_documents tree = documents tree.held.now

-- the folder below
abbrev pub below : {T : Type 0} → OpenTree T → T
below tree = tree.tree

-- the faults that it counted
abbrev pub open_faults : {T : Type 0} → OpenTree T → ℕ
open_faults tree = tree.faults

-- its files, if those of the folder below are modelled
abbrev pub open_files : {T : Type 0} → (T → Option FileMap) → OpenTree T → Option FileMap
open_files content tree = option_map (laid (held_documents tree)) (content (below tree))
