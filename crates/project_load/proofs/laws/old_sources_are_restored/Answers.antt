use Rattle.project_load.proofs.Rewritten.{old_sources_are_restored}
use Rattle.project_load.proofs.laws.old_sources_are_restored.Goals as goal

pub returns : goal.returns
returns c = old_sources_are_restored
