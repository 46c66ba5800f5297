use Rattle.command_replies.proofs.Verifying.{judged_kind, said_judged, said_unlisted}
use Rattle.command_replies.proofs.verify.reply_against.Goals as goal

pub returns-in_ok-judge-in-Ok-clause-kind : goal.returns-in_ok-judge-in-Ok-clause-kind
returns-in_ok-judge-in-Ok-clause-kind g c = judged_kind c.args.old.now c.in-Ok.new c.in_ok-judge-in-Ok.field-0 c.in_ok-judge-in-Ok.ensures

pub returns-in_ok-judge-in-Ok-clause-said : goal.returns-in_ok-judge-in-Ok-clause-said
returns-in_ok-judge-in-Ok-clause-said g c =
    said_judged (g.T.Tree.content c.args.tree.now) c.args.list.now c.load_list.result c.load_list.ensures.answer c.args.old.now c.in-Ok.new
    c.in_ok-judge-in-Ok.field-0 c.in-Ok.is
    c.in_ok-judge-in-Ok.ensures

pub returns-in-Err-clause-said : goal.returns-in-Err-clause-said
returns-in-Err-clause-said g c =
    said_unlisted (g.T.Tree.content c.args.tree.now) c.args.list.now c.load_list.result c.load_list.ensures.answer c.args.old.now c.in-Err.error
    c.list_reply.result c.in-Err.is
    c.list_reply.ensures.refused c.list_reply.ensures.answered
