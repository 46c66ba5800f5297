use Rattle.std.proofs.Common.{◌≡◌, take}
use Rattle.shape_core.proofs.sharing.share_all.Given as goal

abbrev pub invariant-loop-entry : goal.invariant-loop-entry
invariant-loop-entry l = l.shared.items ≡ take l.entry-index l.list
