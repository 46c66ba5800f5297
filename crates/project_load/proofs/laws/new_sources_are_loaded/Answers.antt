use Rattle.project_load.proofs.Rewritten.{new_sources_are_loaded}
use Rattle.project_load.proofs.laws.new_sources_are_loaded.Goals as goal

pub returns : goal.returns
returns c = new_sources_are_loaded
