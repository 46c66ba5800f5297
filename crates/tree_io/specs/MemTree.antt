-- What a folder in memory with listed faults holds (own).
use Rattle.std.specs.Prelude.{◌≡◌, ℕ, List, Bool, if◌then◌else◌}
use Rattle.tree_io.specs.declared.mem_tree.MemTree.{MemTree}
use Rattle.tree_io.specs.Counts.{next_count, is_listed, IsPast}
use Rattle.tree_io.specs.Outside.{FileMap}
use Rattle.tree_io.specs.Store.{stored, store_room}

-- its files
abbrev pub mem_files : MemTree → FileMap
mem_files tree = stored tree.store

-- the bytes of room for each name
abbrev pub mem_room : MemTree → List ℕ → ℕ
mem_room tree = store_room tree.store

-- the numbers of the calls that are to fail
abbrev pub mem_failing : MemTree → List ℕ
mem_failing tree = tree.failing.items

-- the calls of list, read and write so far
abbrev pub mem_calls : MemTree → ℕ
mem_calls tree = tree.calls

-- the faults so far
abbrev pub mem_faults : MemTree → ℕ
mem_faults tree = tree.faults

-- the next call of list, read or write is to fail
abbrev pub fails_next : MemTree → Bool
fails_next tree = is_listed (mem_failing tree) (next_count (mem_calls tree))

-- no call after those so far is listed
abbrev pub IsSteady : MemTree → Type 0
IsSteady tree = IsPast (mem_failing tree) (mem_calls tree)

-- what a call of list, read or write counts
pub record CountsCall (old new : MemTree) : Type 0 where
  pub failing : mem_failing new ≡ mem_failing old
  pub calls : mem_calls new ≡ next_count (mem_calls old)
  pub faults : mem_faults new ≡ (if fails_next old then next_count (mem_faults old) else mem_faults old)

-- a call that counts nothing
pub record CountsNothing (old new : MemTree) : Type 0 where
  pub failing : mem_failing new ≡ mem_failing old
  pub calls : mem_calls new ≡ mem_calls old
  pub faults : mem_faults new ≡ mem_faults old
