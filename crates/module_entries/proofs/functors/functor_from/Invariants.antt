use Rattle.std.proofs.Common.{◌≡◌, length}
use Rattle.module_entries.specs.Given.{functors_to}
use Rattle.module_entries.proofs.functors.functor_from.Given as goal

abbrev pub invariant-loop-param : goal.invariant-loop-param
invariant-loop-param l = functors_to l.fn.given.items l.fn.body ≡ functors_to l.given.items l.shape

abbrev pub decreases-loop-param : goal.decreases-loop-param
decreases-loop-param l = length l.given.items
