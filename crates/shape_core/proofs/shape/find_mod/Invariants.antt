use Rattle.std.proofs.Common.{◌≡◌, take}
use Rattle.shape_core.specs.Shape as pure
use Rattle.shape_core.specs.View.{entries, found_shape}
use Rattle.shape_core.proofs.shape.find_mod.Given as goal

abbrev pub invariant-loop-entry : goal.invariant-loop-entry
invariant-loop-entry l = found_shape l.last ≡ pure.last_of (pure.mods (entries (take l.entry-index l.list))) l.name
