use Rattle.std.proofs.Common.{false}
use Rattle.command_replies.specs.Said.{SaysChecked}
use Rattle.command_replies.proofs.Saying.{checked_kind, checked_writes, said_over, said_not_loaded}
use Rattle.command_replies.proofs.check.reply_to_check.Goals as goal

pub returns-in_ok-checked_reply-in-Ok-clause-kind : goal.returns-in_ok-checked_reply-in-Ok-clause-kind
returns-in_ok-checked_reply-in-Ok-clause-kind g c = checked_kind _ _ c.in_ok-checked_reply-in-Ok.ensures

pub returns-in_ok-checked_reply-in-Ok-clause-silent : goal.returns-in_ok-checked_reply-in-Ok-clause-silent
returns-in_ok-checked_reply-in-Ok-clause-silent g c = checked_writes _ _ c.in_ok-checked_reply-in-Ok.ensures

pub returns-in_ok-checked_reply-in-Ok-clause-said : goal.returns-in_ok-checked_reply-in-Ok-clause-said
returns-in_ok-checked_reply-in-Ok-clause-said g c =
    said_over false SaysChecked (g.T.Tree.content c.args.tree.now) c.in_ok-files.field-0 c.in_ok-checked_reply-in-Ok.field-0
    c.in_ok-files.ensures.answer c.in-Ok.files c.in-Ok.is c.in_ok-checked_reply-in-Ok.ensures

pub returns-in_ok-unloaded_reply-in-Err-clause-said : goal.returns-in_ok-unloaded_reply-in-Err-clause-said
returns-in_ok-unloaded_reply-in-Err-clause-said g c =
    said_not_loaded false SaysChecked (g.T.Tree.content c.args.tree.now) c.in_ok-files.field-0 c.in_ok-unloaded_reply-in-Err.field-0
    c.in_ok-files.ensures.answer c.in-Err.error c.in-Err.is c.in_ok-unloaded_reply-in-Err.ensures
