use Rattle.renamed_sources.proofs.Limits.{nothing_is_over, small_is_taken}
use Rattle.renamed_sources.proofs.laws.nothing_is_over.Goals as goal

pub returns : goal.returns
returns c = record { over = nothing_is_over; taken = small_is_taken }
