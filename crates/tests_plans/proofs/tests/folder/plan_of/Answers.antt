use Rattle.std.proofs.Common.{refl}
use Rattle.std.specs.List.Sorted.{IsStrictlySortedBy}
use Rattle.tests_plans.proofs.tests.folder.plan_of.Goals as goal

pub make_plan-requires-clause-ordered : goal.make_plan-requires-clause-ordered
unfolding IsStrictlySortedBy
make_plan-requires-clause-ordered g c = ((refl, tt), (tt, tt))
