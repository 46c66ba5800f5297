use Rattle.folder_messages.proofs.Holding.{large_explained}
use Rattle.folder_messages.proofs.folder.folder_message.Goals as goal

pub returns-in_ok-large_message-in-TooLarge-clause-message : goal.returns-in_ok-large_message-in-TooLarge-clause-message
returns-in_ok-large_message-in-TooLarge-clause-message g c =
    large_explained (g.T.Tree.content c.args.tree.now) c.args.error.now c.in-TooLarge.file c.in_ok-large_message-in-TooLarge.field-0
    c.in-TooLarge.is c.in_ok-large_message-in-TooLarge.ensures.message
