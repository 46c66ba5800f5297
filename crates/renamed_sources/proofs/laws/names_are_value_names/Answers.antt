use Rattle.renamed_sources.proofs.ValueNames.{names_are_value_names}
use Rattle.renamed_sources.proofs.laws.names_are_value_names.Goals as goal

pub returns : goal.returns
returns c = names_are_value_names
