-- Files in a list of slots (own).
use Rattle.std.specs.Prelude.{ℕ, Bool, true, not, ◌&&◌, List, [], ◌∷◌, if◌then◌else◌, vec_capacity}
use Rattle.std.specs.List.{list_any}
use Rattle.std.specs.Str.{bytes_eq}
use Rattle.tree_io.specs.declared.slot.Slot.{Slot}

-- no name occurs twice
abbrev pub are_distinct : List (List ℕ) → Bool
are_distinct [] = true
are_distinct (name ∷ names) = not (list_any (bytes_eq name) names) && are_distinct names

-- the slot has this name
abbrev pub is_named : List ℕ → Slot → Bool
is_named name slot = bytes_eq slot.name name

-- the names and the bytes of the slots that are there
abbrev pub files_in : List Slot → List (List ℕ × List ℕ)
files_in [] = []
files_in (slot ∷ slots) = if slot.there then (slot.name, slot.bytes.items) ∷ files_in slots else files_in slots

-- the room of the first slot of a name; if no slot has it, 0
abbrev pub room_in : List Slot → List ℕ → ℕ
room_in [] name = 0
room_in (slot ∷ slots) name = if is_named name slot then vec_capacity slot.bytes else room_in slots name
