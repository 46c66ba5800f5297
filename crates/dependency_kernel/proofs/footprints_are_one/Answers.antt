use Rattle.dependency_kernel.proofs.Laws.{tells_pinned}
use Rattle.dependency_kernel.proofs.Only.{is_the_only}
use Rattle.dependency_kernel.proofs.footprints_are_one.Goals as goal

pub returns : goal.returns
returns c = record { only = is_the_only; pinned = tells_pinned }
