use Rattle.std.proofs.Common.{ap, option_map}
use Rattle.command_replies.proofs.Saying.{due_said}
use Rattle.command_replies.proofs.recover.reply_to_recover.Goals as goal

pub returns-in_ok-recovered_reply-in-Ok-Some-clause-said : goal.returns-in_ok-recovered_reply-in-Ok-Some-clause-said
returns-in_ok-recovered_reply-in-Ok-Some-clause-said g c =
    due_said (g.T.Tree.content c.args.tree.now) _ c.in-Ok-Some.writes.items c.in_ok-recovered_reply-in-Ok-Some.field-0
    (ap (option_map (λ writes. writes.items)) c.in-Ok-Some.field-0-is)
    c.in-Ok-Some.ensures.due c.in_ok-recovered_reply-in-Ok-Some.ensures
