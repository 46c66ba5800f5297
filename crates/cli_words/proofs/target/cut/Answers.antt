use Rattle.cli_words.proofs.Cuts.{cut_is}
use Rattle.cli_words.proofs.target.cut.Goals as goal

pub returns : goal.returns
returns c = cut_is _ _ _ _ _ c.in_ok-place.ensures c.split_at.ensures.front c.split_at.ensures.back
