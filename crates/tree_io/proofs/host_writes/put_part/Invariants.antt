use Rattle.std.proofs.Common.{◌-◌, ◌≤◌}
use Rattle.tree_io.specs.Disk.{PutsPart}
use Rattle.tree_io.proofs.host_writes.put_part.Given as goal

abbrev pub invariant-loop-at : goal.invariant-loop-at
invariant-loop-at g l = record {
  behind : l.from ≤ l.at;
  before : l.at ≤ l.upto;
  put : PutsPart l.from l.at l.bytes (g.D.Disk.held l.fn.file) (g.D.Disk.held l.file);
}

abbrev pub decreases-loop-at : goal.decreases-loop-at
decreases-loop-at g l = l.upto - l.at
