use Rattle.renamed_sources.proofs.Respelling.{renamed_keep_names}
use Rattle.renamed_sources.proofs.laws.renamed_keep_names.Goals as goal

pub returns : goal.returns
returns c = renamed_keep_names
