use Rattle.std.proofs.Common.{List, ℕ, IfOk, IfSome, subst}
use Rattle.cli_words.specs.declared.command.Command.TheVariants.{Check, Shape, Rename, Verify, Batch, Recover}
use Rattle.command_replies.specs.declared.writing.Writing.{Writing}
use Rattle.command_replies.specs.Said.{Says, SaysBatch, SaysRename, SaysVerify}
use Rattle.command_replies.proofs.Saying.{says_as, silent_room, sample_alone, sample_kind, sample_said, sample_room}
use Rattle.command_replies.proofs.deciding.reply_to.Goals as goal

pub returns-in-Check-clause-said : goal.returns-in-Check-clause-said
unfolding Says
returns-in-Check-clause-said g c =
    says_as (g.T.Tree.content c.args.tree.now) c.reply_to_check.result c.args.command.now Check c.in-Check.is
    c.reply_to_check.ensures.said

pub returns-in-Check-clause-room : goal.returns-in-Check-clause-room
returns-in-Check-clause-room g c = silent_room (g.T.Tree.room_for c.reply_to_check.new.tree) c.reply_to_check.result c.reply_to_check.ensures.silent

pub returns-in-Shape-clause-said : goal.returns-in-Shape-clause-said
unfolding Says
returns-in-Shape-clause-said g c =
    says_as (g.T.Tree.content c.args.tree.now) c.reply_to_shape.result c.args.command.now (Shape c.in-Shape.target) c.in-Shape.is
    c.reply_to_shape.ensures.said

pub returns-in-Shape-clause-room : goal.returns-in-Shape-clause-room
returns-in-Shape-clause-room g c = silent_room (g.T.Tree.room_for c.reply_to_shape.new.tree) c.reply_to_shape.result c.reply_to_shape.ensures.silent

pub returns-in-Rename-clause-said : goal.returns-in-Rename-clause-said
unfolding Says
returns-in-Rename-clause-said g c =
    says_as (g.T.Tree.content c.args.tree.now) c.reply_to_rename.result c.args.command.now
    (Rename c.in-Rename.target c.in-Rename.name c.in-Rename.write c.in-Rename.safe c.in-Rename.json) c.in-Rename.is
    (subst (λ (w : Writing). IfOk c.reply_to_rename.result (λ reply. IfSome (g.T.Tree.content c.args.tree.now)
    (λ held. SaysRename c.in-Rename.target c.in-Rename.name w c.in-Rename.json held reply))) c.from_flags-writing.ensures
    c.reply_to_rename.ensures.said)

pub returns-in-Verify-clause-said : goal.returns-in-Verify-clause-said
unfolding Says
returns-in-Verify-clause-said g c =
    says_as (g.T.Tree.content c.args.tree.now) c.reply_to_verify.result c.args.command.now (Verify c.in-Verify.old c.in-Verify.new) c.in-Verify.is
    (subst (λ (old : List ℕ). IfOk c.reply_to_verify.result (λ reply. IfSome (g.T.Tree.content c.args.tree.now)
    (λ held. SaysVerify old c.in-Verify.new held reply))) c.as_str.ensures
    (subst (λ (new : List ℕ). IfOk c.reply_to_verify.result (λ reply. IfSome (g.T.Tree.content c.args.tree.now)
    (λ held. SaysVerify c.as_str.result.now new held reply))) c.as_str-in-Verify.ensures c.reply_to_verify.ensures.said))

pub returns-in-Verify-clause-room : goal.returns-in-Verify-clause-room
returns-in-Verify-clause-room g c =
    silent_room (g.T.Tree.room_for c.reply_to_verify.new.tree) c.reply_to_verify.result c.reply_to_verify.ensures.silent

pub returns-in-Batch-clause-said : goal.returns-in-Batch-clause-said
unfolding Says
returns-in-Batch-clause-said g c =
    says_as (g.T.Tree.content c.args.tree.now) c.reply_to_batch.result c.args.command.now (Batch c.in-Batch.file c.in-Batch.write) c.in-Batch.is
    (subst (λ (file : List ℕ). IfOk c.reply_to_batch.result (λ reply. IfSome (g.T.Tree.content c.args.tree.now)
    (λ held. SaysBatch file c.in-Batch.write held reply))) c.as_str-in-Batch.ensures c.reply_to_batch.ensures.said)

pub returns-in-Recover-clause-said : goal.returns-in-Recover-clause-said
unfolding Says
returns-in-Recover-clause-said g c =
    says_as (g.T.Tree.content c.args.tree.now) c.reply_to_recover.result c.args.command.now Recover c.in-Recover.is
    c.reply_to_recover.ensures.said

-- `sample`

pub returns-in_ok-reply_to_sample-in-Sample-clause-kind : goal.returns-in_ok-reply_to_sample-in-Sample-clause-kind
returns-in_ok-reply_to_sample-in-Sample-clause-kind g c =
    sample_kind c.in-Sample.units c.in_ok-reply_to_sample-in-Sample.field-0 c.in_ok-reply_to_sample-in-Sample.ensures

pub returns-in_ok-reply_to_sample-in-Sample-clause-said : goal.returns-in_ok-reply_to_sample-in-Sample-clause-said
returns-in_ok-reply_to_sample-in-Sample-clause-said g c =
    sample_said (g.T.Tree.content c.args.tree.now) c.args.command.now c.in-Sample.units c.in_ok-reply_to_sample-in-Sample.field-0
    c.in-Sample.is c.in_ok-reply_to_sample-in-Sample.ensures

pub returns-in_ok-reply_to_sample-in-Sample-clause-said_alone : goal.returns-in_ok-reply_to_sample-in-Sample-clause-said_alone
returns-in_ok-reply_to_sample-in-Sample-clause-said_alone g c = λ asks.
    sample_alone c.args.command.now c.in-Sample.units c.in_ok-reply_to_sample-in-Sample.field-0 c.in-Sample.is
    c.in_ok-reply_to_sample-in-Sample.ensures

pub returns-in_ok-reply_to_sample-in-Sample-clause-room : goal.returns-in_ok-reply_to_sample-in-Sample-clause-room
returns-in_ok-reply_to_sample-in-Sample-clause-room g c =
    sample_room (g.T.Tree.room_for c.args.tree.now) c.in-Sample.units c.in_ok-reply_to_sample-in-Sample.field-0
    c.in_ok-reply_to_sample-in-Sample.ensures
