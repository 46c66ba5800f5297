use Rattle.std.proofs.Common.{◌≡◌, map}
use Rattle.tree_io.specs.Slots.{files_in}
use Rattle.tree_io.proofs.store.make_slots.Given as goal

abbrev pub invariant-loop-file : goal.invariant-loop-file
invariant-loop-file l = record {
  files : files_in l.slots.items ≡ map (λ file. (file.name, file.bytes)) l.yielded;
  names : map (λ slot. slot.name) l.slots.items ≡ map (λ file. file.name) l.yielded;
}
