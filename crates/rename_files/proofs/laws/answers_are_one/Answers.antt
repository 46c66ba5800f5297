use Rattle.rename_files.proofs.One.{one_check, one_footprint, one_renaming}
use Rattle.rename_files.proofs.laws.answers_are_one.Goals as goal

pub returns : goal.returns
returns c = record { check = one_check; footprint = one_footprint; renaming = one_renaming }
