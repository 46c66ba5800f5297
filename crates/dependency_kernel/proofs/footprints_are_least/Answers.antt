use Rattle.dependency_kernel.proofs.Laws.{has_one_name, changes_all, fixed_stays}
use Rattle.dependency_kernel.proofs.footprints_are_least.Goals as goal

pub returns : goal.returns
returns c = record { name = has_one_name; all = changes_all; fixed = fixed_stays }
