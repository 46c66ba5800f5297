use Rattle.renamed_sources.proofs.Respelling.{sources_can_be_respelled}
use Rattle.renamed_sources.proofs.laws.sources_can_be_respelled.Goals as goal

pub returns : goal.returns
returns c = sources_can_be_respelled
