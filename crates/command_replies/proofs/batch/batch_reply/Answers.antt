use Rattle.std.proofs.Common.{option_map}
use Rattle.command_replies.proofs.Batching.{found_kind, said_found}
use Rattle.command_replies.proofs.batch.batch_reply.Goals as goal

pub returns-clause-kind : goal.returns-clause-kind
returns-clause-kind g c =
    found_kind c.args.file.now c.args.write (option_map (λ bytes. bytes.items) c.in_ok-found.found) c.args.files.now c.in_ok-reply.reply
    c.in_ok-reply.ensures

pub returns-clause-said : goal.returns-clause-said
returns-clause-said g c =
    said_found c.args.file.now c.args.write c.args.files.now c.in_ok-reply.reply (g.T.Tree.content c.args.tree.now)
    (option_map (λ bytes. bytes.items) c.in_ok-found.found) c.in_ok-found.ensures.read c.in_ok-reply.ensures
