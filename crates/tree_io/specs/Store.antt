-- What a store of files holds (own).
use Rattle.std.specs.Prelude.{◌≡◌, ℕ, true, List, map}
use Rattle.std.specs.FinMap.{from_entries}
use Rattle.rotor_base.specs.declared.source.SourceFile.{SourceFile}
use Rattle.tree_io.specs.Outside.{FileMap}
use Rattle.tree_io.specs.Slots.{are_distinct, files_in, room_in}
use Rattle.tree_io.specs.declared.store.Store.{Store}

-- the files of a store
abbrev pub stored : Store → FileMap
stored store = from_entries (files_in store.slots.items)

-- the bytes of room that a store has for each name
abbrev pub store_room : Store → List ℕ → ℕ
store_room store = room_in store.slots.items

-- the map of these files
abbrev pub source_map : List SourceFile → FileMap
source_map files = from_entries (map (λ file. (file.name, file.bytes)) files)

-- no two of these files have the same name
abbrev pub HasDistinctNames : List SourceFile → Type 0
HasDistinctNames files = are_distinct (map (λ file. file.name) files) ≡ true
