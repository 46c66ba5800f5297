-- There is a reply (own).
use Rattle.std.specs.Prelude.{Option}
use Rattle.tree_io.specs.Outside.{FileMap}
use Rattle.cli_words.specs.declared.command.Command.{Command}
use Rattle.command_replies.specs.declared.reply.Reply.{Reply}
use Rattle.command_replies.specs.Said.{Says}

-- Law: there is a reply to the command of all words, or to words that have none, over each folder
abbrev pub RepliesAreGiven : Type 0
RepliesAreGiven = (request : Option Command) (held : FileMap) → (reply : Reply) × Says request held reply
