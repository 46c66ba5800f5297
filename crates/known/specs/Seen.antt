-- What was seen of a folder (own).
use Rattle.std.specs.Prelude.{◌≡◌, ℕ, List, Option, Some, IfSome, is_some, option_map, take}
use Rattle.std.specs.BTreeMap.{get_by_text}
use Rattle.std.specs.FinMap.{empty, get}
use Rattle.std.specs.Map.{update}
use Rattle.std.specs.Str.{bytes_eq}
use Rattle.tree_io.specs.Outside.{FileMap, IsFront}
use Rattle.known.specs.Held.{Reaches, over, room_or}
use Rattle.known.specs.declared.held.Held.{Held}
use Rattle.known.specs.declared.seen.Seen.{Seen}

-- its map: each name with the bytes that were read, so none if the file was not read
abbrev pub seen_files : Seen → FileMap
seen_files seen = over empty seen.files.entries

-- the bytes of room that it has for each name
abbrev pub seen_room : Seen → List ℕ → ℕ
seen_room seen name = room_or 0 (get_by_text seen.files name)

-- the file under a name, as far as it was read
abbrev pub seen_held : Seen → List ℕ → Option Held
seen_held seen name = get_by_text seen.files name

-- so many bytes of the file were read, or all of them
abbrev pub IsRead : Seen → List ℕ → ℕ → Type 0
IsRead seen name limit = Reaches limit (seen_held seen name)

-- one file is now this one, and the others are as they were
abbrev pub SetsFile : List ℕ → Held → Seen → Seen → Type 0
SetsFile name file before now = (other : List ℕ) → seen_held now other ≡ update bytes_eq (seen_held before) name (Some file) other

-- the names are those of the folder
abbrev pub HasNames : FileMap → FileMap → Type 0
HasNames held files = (name : List ℕ) → is_some (get files name) ≡ is_some (get held name)

-- if the content is modelled, the names are its
abbrev pub NamesOf : Option FileMap → FileMap → Type 0
NamesOf content files = (held : FileMap) → content ≡ Some held → HasNames held files

-- two files have the same first bytes, as many as the limit
abbrev pub SameFront : ℕ → Option (List ℕ) → Option (List ℕ) → Type 0
SameFront limit one other = option_map (take limit) one ≡ option_map (take limit) other

-- if the content is modelled, the bytes that were read are the first ones of its files
abbrev pub FrontsOf : Option FileMap → Seen → Type 0
FrontsOf content seen =
    (held : FileMap) → content ≡ Some held → (name : List ℕ) (limit : ℕ) → IsRead seen name limit
    → SameFront limit (get held name) (get (seen_files seen) name)

-- the first bytes of the file are now under its name, and the other files are as they were
pub record SeesFile (limit : ℕ) (name : List ℕ) (content : Option FileMap) (before now : Seen) : Type 0 where
  pub file : Held
  pub count : file.limit ≡ limit
  pub set : SetsFile name file before now
  pub front : IfSome content (λ held. IsFront limit (get held name) file.bytes.items)
