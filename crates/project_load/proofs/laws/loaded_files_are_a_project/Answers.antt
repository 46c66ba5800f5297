use Rattle.project_load.proofs.Rewritten.{loaded_files_are_a_project}
use Rattle.project_load.proofs.laws.loaded_files_are_a_project.Goals as goal

pub returns : goal.returns
returns c = loaded_files_are_a_project
