use Rattle.std.proofs.Common.{false}
use Rattle.command_replies.specs.Said.{SaysShown}
use Rattle.command_replies.proofs.Saying.{shown_kind, shown_writes, said_over, said_not_loaded}
use Rattle.command_replies.proofs.shape.reply_to_shape.Goals as goal

pub returns-in_ok-shown_reply-in-Ok-clause-kind : goal.returns-in_ok-shown_reply-in-Ok-clause-kind
returns-in_ok-shown_reply-in-Ok-clause-kind g c = shown_kind c.args.target.now _ _ c.in_ok-shown_reply-in-Ok.ensures

pub returns-in_ok-shown_reply-in-Ok-clause-silent : goal.returns-in_ok-shown_reply-in-Ok-clause-silent
returns-in_ok-shown_reply-in-Ok-clause-silent g c = shown_writes c.args.target.now _ _ c.in_ok-shown_reply-in-Ok.ensures

pub returns-in_ok-shown_reply-in-Ok-clause-said : goal.returns-in_ok-shown_reply-in-Ok-clause-said
returns-in_ok-shown_reply-in-Ok-clause-said g c =
    said_over false (SaysShown c.args.target.now) (g.T.Tree.content c.args.tree.now) c.in_ok-files.field-0 c.in_ok-shown_reply-in-Ok.field-0
    c.in_ok-files.ensures.answer c.in-Ok.files c.in-Ok.is c.in_ok-shown_reply-in-Ok.ensures

pub returns-in_ok-unloaded_reply-in-Err-clause-said : goal.returns-in_ok-unloaded_reply-in-Err-clause-said
returns-in_ok-unloaded_reply-in-Err-clause-said g c =
    said_not_loaded false (SaysShown c.args.target.now) (g.T.Tree.content c.args.tree.now) c.in_ok-files.field-0 c.in_ok-unloaded_reply-in-Err.field-0
    c.in_ok-files.ensures.answer c.in-Err.error c.in-Err.is c.in_ok-unloaded_reply-in-Err.ensures
