-- What was seen of a folder, with what was written since then (own).
use Rattle.std.specs.Prelude.{◌≡◌, ℕ, List, Option, Some, IsSome, is_some, if◌then◌else◌}
use Rattle.std.specs.FinMap.{get}
use Rattle.tree_io.specs.Outside.{FileMap}
use Rattle.tree_io.specs.SoundTree.{sound_files}
use Rattle.tree_io.specs.Store.{store_room}
use Rattle.known.specs.Held.{over}
use Rattle.known.specs.Seen.{IsRead, SameFront, seen_files, seen_room}
use Rattle.known.specs.declared.kept.Kept.{Kept}

-- its files
abbrev pub kept_files : Kept → FileMap
kept_files kept = over (sound_files kept.made) kept.seen.files.entries

-- the bytes of room that it has for each name
abbrev pub kept_room : Kept → List ℕ → ℕ
kept_room kept name = if is_some (get (seen_files kept.seen) name) then seen_room kept.seen name else store_room kept.made.store name

-- if the file was seen, so many bytes of it were read, or all of them
abbrev pub HasRead : Kept → List ℕ → ℕ → Type 0
HasRead kept name limit = IsSome (get (seen_files kept.seen) name) → IsRead kept.seen name limit

-- if the content is modelled, the bytes that are known are the first ones of its files
abbrev pub KnowsFronts : Option FileMap → Kept → Type 0
KnowsFronts content kept =
    (held : FileMap) → content ≡ Some held → (name : List ℕ) (limit : ℕ) → HasRead kept name limit
    → SameFront limit (get held name) (get (kept_files kept) name)
