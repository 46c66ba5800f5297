use Rattle.tree_io.specs.Outside.{FileMap}
use Rattle.command_replies.specs.Writing.{is_writing}
use Rattle.command_replies.specs.Said.{SaysRenaming}
use Rattle.command_replies.proofs.Saying.{renaming_kind, always, said_written, said_pending, said_unloaded}
use Rattle.command_replies.proofs.rename.reply_to_rename.Goals as goal

pub returns-in_ok-take_room-in-Project-clause-kind : goal.returns-in_ok-take_room-in-Project-clause-kind
returns-in_ok-take_room-in-Project-clause-kind g c =
    renaming_kind c.args.target.now c.args.name.now c.args.writing c.args.as_json c.in-Project.files c.in_ok-reply-in-Project.reply
    c.in_ok-reply-in-Project.ensures

pub returns-in_ok-take_room-in-Project-clause-said : goal.returns-in_ok-take_room-in-Project-clause-said
returns-in_ok-take_room-in-Project-clause-said g c =
    said_written c.args.as_json c.is_writing.result (is_writing c.args.writing)
    (λ (held : FileMap). SaysRenaming c.args.target.now c.args.name.now c.args.writing c.args.as_json)
    (g.T.Tree.content c.args.tree.now) c.in_ok-files.field-0 c.in_ok-reply-in-Project.reply c.is_writing.ensures c.in_ok-files.ensures.found
    c.in-Project.files c.in-Project.is (always _ _ (λ held. c.in_ok-reply-in-Project.ensures))

pub returns-in_ok-pending_reply-in-Pending-clause-said : goal.returns-in_ok-pending_reply-in-Pending-clause-said
returns-in_ok-pending_reply-in-Pending-clause-said g c =
    said_pending c.args.as_json c.is_writing.result (is_writing c.args.writing)
    (λ (held : FileMap). SaysRenaming c.args.target.now c.args.name.now c.args.writing c.args.as_json)
    (g.T.Tree.content c.args.tree.now) c.in_ok-files.field-0 c.in_ok-pending_reply-in-Pending.field-0 c.is_writing.ensures
    c.in_ok-files.ensures.found c.in-Pending.is c.in_ok-pending_reply-in-Pending.ensures

pub returns-in_ok-unloaded_reply-in-NotLoaded-clause-said : goal.returns-in_ok-unloaded_reply-in-NotLoaded-clause-said
returns-in_ok-unloaded_reply-in-NotLoaded-clause-said g c =
    said_unloaded c.args.as_json c.is_writing.result (is_writing c.args.writing)
    (λ (held : FileMap). SaysRenaming c.args.target.now c.args.name.now c.args.writing c.args.as_json)
    (g.T.Tree.content c.args.tree.now) c.in_ok-files.field-0 c.in_ok-unloaded_reply-in-NotLoaded.field-0 c.is_writing.ensures
    c.in_ok-files.ensures.found c.in-NotLoaded.error c.in-NotLoaded.is c.in_ok-unloaded_reply-in-NotLoaded.ensures
