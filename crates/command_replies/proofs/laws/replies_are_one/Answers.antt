use Rattle.command_replies.proofs.OneReply as proof
use Rattle.command_replies.proofs.laws.replies_are_one.Goals as goal

pub returns : goal.returns
returns c = proof.replies_are_one
