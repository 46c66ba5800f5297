use Rattle.std.proofs.Common.{false, refl}
use Rattle.tree_io.specs.Outside.{FileMap}
use Rattle.command_replies.specs.Said.{SaysFound, batch_in}
use Rattle.command_replies.proofs.Saying.{said_result, said_pending, said_unloaded}
use Rattle.command_replies.proofs.batch.reply_to_batch.Goals as goal

pub returns-in-Project-clause-said : goal.returns-in-Project-clause-said
returns-in-Project-clause-said g c =
    said_result false c.args.write (λ (held : FileMap). SaysFound c.args.file.now c.args.write (batch_in held c.args.file.now))
    (g.T.Tree.content c.args.tree.now) (g.T.Tree.content c.open_project.new.tree) c.in_ok-files.field-0 c.batch_reply.result
    c.open_project.ensures.content c.in_ok-files.ensures.found c.in-Project.files c.in-Project.is c.batch_reply.ensures.said

pub returns-in_ok-pending_reply-in-Pending-clause-said : goal.returns-in_ok-pending_reply-in-Pending-clause-said
returns-in_ok-pending_reply-in-Pending-clause-said g c =
    said_pending false c.args.write c.args.write (λ (held : FileMap). SaysFound c.args.file.now c.args.write (batch_in held c.args.file.now))
    (g.T.Tree.content c.args.tree.now) c.in_ok-files.field-0 c.in_ok-pending_reply-in-Pending.field-0 refl
    c.in_ok-files.ensures.found c.in-Pending.is c.in_ok-pending_reply-in-Pending.ensures

pub returns-in_ok-unloaded_reply-in-NotLoaded-clause-said : goal.returns-in_ok-unloaded_reply-in-NotLoaded-clause-said
returns-in_ok-unloaded_reply-in-NotLoaded-clause-said g c =
    said_unloaded false c.args.write c.args.write (λ (held : FileMap). SaysFound c.args.file.now c.args.write (batch_in held c.args.file.now))
    (g.T.Tree.content c.args.tree.now) c.in_ok-files.field-0 c.in_ok-unloaded_reply-in-NotLoaded.field-0 refl
    c.in_ok-files.ensures.found c.in-NotLoaded.error c.in-NotLoaded.is c.in_ok-unloaded_reply-in-NotLoaded.ensures
