use Rattle.std.proofs.Common.{◌≡◌, length, take}
use Rattle.shape_core.specs.Node.{entries_of}
use Rattle.shape_core.specs.Shape.{darks, last_place}
use Rattle.shape_core.proofs.listed.darks_among.Given as goal

abbrev pub invariant-loop-entry : goal.invariant-loop-entry
invariant-loop-entry l = record {
  number : l.darks.0 ≡ length (darks (entries_of (take l.entry-index l.list)));
  last : l.darks.1 ≡ last_place (darks (entries_of (take l.entry-index l.list)));
}
