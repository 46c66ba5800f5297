-- The files of a map from names to bytes, as far as they were read (own).
use Rattle.std.specs.Prelude.{◌⊎◌, ℕ, ◌≤◌, ◌<◌, List, [], ◌∷◌, String, string_bytes, length, vec_capacity, Option, Some, None}
use Rattle.std.specs.Option.{option_map_or}
use Rattle.std.specs.declared.alloc.Global.{Global}
use Rattle.std.specs.FinMap.{insert}
use Rattle.tree_io.specs.Outside.{FileMap}
use Rattle.known.specs.declared.held.Held.{Held}

-- these files, and beside them those of a folder
abbrev pub over : FileMap → List (String Global × Held) → FileMap
over beside [] = beside
over beside (e ∷ es) = insert (over beside es) (string_bytes e.0) e.1.bytes.items

-- the room that a file has; if there is none, that of another folder
abbrev pub room_or : ℕ → Option Held → ℕ
room_or beside held = option_map_or (λ (h : Held). vec_capacity h.bytes) held beside

-- the first bytes of a file are known, as many as the limit: so many were read, or the file has fewer than were asked for
abbrev pub Reaches : ℕ → Option Held → Type 0
Reaches limit None = ⊥
Reaches limit (Some held) = (limit ≤ held.limit) ⊎ (length held.bytes.items < held.limit)
