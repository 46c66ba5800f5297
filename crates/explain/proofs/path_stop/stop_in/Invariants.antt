use Rattle.std.proofs.Common.{◌≡◌, ◌+◌, drop}
use Rattle.shape_core.specs.Shape.{entries_in}
use Rattle.explain.specs.PathStop.{path_stop}
use Rattle.explain.proofs.path_stop.stop_in.Given as goal

-- the path stops where it stops behind the steps so far
abbrev pub invariant-loop-at : goal.invariant-loop-at
invariant-loop-at l = path_stop (entries_in l.inside) (l.at + 1) (drop l.at l.path) ≡ path_stop (entries_in l.fn.shape) 1 l.path
