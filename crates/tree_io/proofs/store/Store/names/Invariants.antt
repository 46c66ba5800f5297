use Rattle.std.proofs.Common.{◌≡◌, take, map, string_bytes}
use Rattle.tree_io.proofs.Slots.{names_in}
use Rattle.tree_io.proofs.store.Store.names.Given as goal

abbrev pub invariant-loop-slot : goal.invariant-loop-slot
invariant-loop-slot l = map string_bytes l.names.items ≡ names_in (take l.slot-index l.self.slots.items)
