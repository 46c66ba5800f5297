use Rattle.source_diff.proofs.Single.{one_diff}
use Rattle.source_diff.proofs.laws.diffs_are_one.Goals as goal

pub returns : goal.returns
returns c = one_diff
