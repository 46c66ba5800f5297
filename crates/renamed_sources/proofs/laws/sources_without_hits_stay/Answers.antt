use Rattle.renamed_sources.proofs.Unhit.{sources_without_hits_stay}
use Rattle.renamed_sources.proofs.laws.sources_without_hits_stay.Goals as goal

pub returns : goal.returns
returns c = sources_without_hits_stay
