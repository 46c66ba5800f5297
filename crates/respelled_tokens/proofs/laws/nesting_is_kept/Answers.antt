use Rattle.respelled_tokens.proofs.Kept.{nesting_is_kept}
use Rattle.respelled_tokens.proofs.laws.nesting_is_kept.Goals as goal

pub returns : goal.returns
returns c = record { nesting = nesting_is_kept }
