-- What is known of a folder that was read before (own).
use Rattle.std.specs.Prelude.{ℕ, List, Option, Some, None}
use Rattle.tree_io.specs.Outside.{FileMap}
use Rattle.known.specs.Kept.{HasRead, kept_files, kept_room}
use Rattle.tree_io.specs.declared.outside.Tree.{Ghosts}
use Rattle.known.specs.declared.known.Known.{Known}

-- its files
abbrev pub known_files : {T : Type 0} {ghosts : Ghosts T} → Known T ghosts → FileMap
known_files known = kept_files known.kept

-- the faults that it counted
abbrev pub known_faults : {T : Type 0} {ghosts : Ghosts T} → Known T ghosts → ℕ
known_faults known = known.faults

-- the bytes of room that what was seen has for each name
abbrev pub known_room : {T : Type 0} {ghosts : Ghosts T} → Known T ghosts → List ℕ → ℕ
known_room known = kept_room known.kept

-- if the file was seen, so many bytes of it were read, or all of them
abbrev pub IsKnown : {T : Type 0} {ghosts : Ghosts T} → Known T ghosts → List ℕ → ℕ → Type 0
IsKnown known name limit = HasRead known.kept name limit

-- the folder below
abbrev pub known_tree : {T : Type 0} {ghosts : Ghosts T} → Known T ghosts → T
known_tree known = known.tree

-- the files of a folder: if its content is modelled, those; else what was seen of it and written to it
abbrev pub files_of : Option FileMap → FileMap → FileMap
files_of None known = known
files_of (Some held) known = held
