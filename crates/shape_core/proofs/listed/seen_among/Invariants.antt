use Rattle.std.proofs.Common.{take}
use Rattle.shape_core.specs.Node.{entries_of}
use Rattle.shape_core.specs.View.{Sees}
use Rattle.shape_core.proofs.listed.seen_among.Given as goal

abbrev pub invariant-loop-entry : goal.invariant-loop-entry
invariant-loop-entry l = Sees (entries_of (take l.entry-index l.list)) l.name l.seen
