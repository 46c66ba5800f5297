use Rattle.std.proofs.Common.{◌≡◌, ◌++◌, drop, map}
use Rattle.name_resolve.specs.Recorded.{moved}
use Rattle.name_resolve.proofs.recording.add_looks.Given as goal

abbrev pub invariant-loop-look : goal.invariant-loop-look
invariant-loop-look l =
    record l.all { links = l.all.links ++ map (moved l.first) (drop l.look-index l.look-items) }
    ≡ record l.fn.all { links = l.fn.all.links ++ map (moved l.first) l.look-items }
