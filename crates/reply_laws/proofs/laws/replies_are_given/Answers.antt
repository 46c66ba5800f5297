use Rattle.reply_laws.proofs.Replies as proof
use Rattle.reply_laws.proofs.laws.replies_are_given.Goals as goal

pub returns : goal.returns
returns c = proof.replies_are_given
