use Rattle.command_replies.proofs.Verifying.{said_listed, said_no_list}
use Rattle.command_replies.proofs.verify.reply_to_verify.Goals as goal

pub returns-in-Ok-clause-said : goal.returns-in-Ok-clause-said
returns-in-Ok-clause-said g c =
    said_listed (g.T.Tree.content c.args.tree.now) c.args.old.now c.load_list.result c.load_list.ensures.answer
    (g.T.Tree.content c.load_list.new.tree) c.args.new.now c.in-Ok.files
    c.reply_against.result c.load_list.ensures.content c.in-Ok.is c.reply_against.ensures.said

pub returns-in-Err-clause-said : goal.returns-in-Err-clause-said
returns-in-Err-clause-said g c =
    said_no_list (g.T.Tree.content c.args.tree.now) c.args.old.now c.load_list.result c.load_list.ensures.answer c.args.new.now c.in-Err.error
    c.list_reply.result c.in-Err.is
    c.list_reply.ensures.refused c.list_reply.ensures.answered
