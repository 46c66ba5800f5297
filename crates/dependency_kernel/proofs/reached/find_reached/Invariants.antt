use Rattle.std.proofs.Common.{◌+◌, length}
use Rattle.std.specs.Prelude.{sum_by}
use Rattle.std.specs.BTreeMap.{values}
use Rattle.dependency_kernel.proofs.Worklist.{Works, count}
use Rattle.dependency_kernel.proofs.reached.find_reached.Given as goal

abbrev pub invariant-loop-place : goal.invariant-loop-place
invariant-loop-place l = Works l.links l.fn.d l.neighbors l.decls l.todo.items

-- the neighbors that are left in the table, and what is still to do
abbrev pub decreases-loop-place : goal.decreases-loop-place
decreases-loop-place l = sum_by count (values l.neighbors) + length l.todo.items
