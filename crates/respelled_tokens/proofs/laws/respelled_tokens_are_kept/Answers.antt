use Rattle.respelled_tokens.proofs.TokensKept.{respelled_tokens_are_kept}
use Rattle.respelled_tokens.proofs.laws.respelled_tokens_are_kept.Goals as goal

pub returns : goal.returns
returns c = record { tokens = respelled_tokens_are_kept }
