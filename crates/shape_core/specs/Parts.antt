-- The entries of a scope, part by part (own).
use Rattle.std.specs.Prelude.{◌≡◌, ◌<◌, ◌+◌, ◌^◌, ℕ, List, [], ◌∷◌, ◌++◌, length, take}
use Rattle.shape_core.specs.declared.shared.SharedEntry.{SharedEntry}
use Rattle.shape_core.specs.declared.opened.OpenedEntries.{OpenedEntries}
use Rattle.shape_core.specs.declared.part.Part.{Part}
use Rattle.shape_core.specs.Items.{items_of}
use Rattle.shape_core.specs.Shape.{entries_in}

-- the first entries of a structure
abbrev pub opened_list : OpenedEntries → List SharedEntry
opened_list o = take o.len (items_of (entries_in o.shape))

-- the entries of a part, and of parts in order
abbrev pub part_list : Part → List SharedEntry
part_list p = p.own ++ opened_list p.opened

abbrev pub parts_list : List Part → List SharedEntry
parts_list [] = []
parts_list (p ∷ ps) = part_list p ++ parts_list ps

-- so many are the entries of some parts, and with more entries they are few enough to be counted
pub record IsCounted (number : ℕ) (parts : List Part) (more : List SharedEntry) : Type 0 where
  pub counted : number ≡ length (parts_list parts)
  pub few : length (parts_list parts) + length more < 2 ^ 64
