use Rattle.std.proofs.Common.{◌∙◌, sym, map, string_bytes}
use Rattle.cli_words.specs.Words.{command_of}
use Rattle.command_replies.proofs.Saying.{usage_said, usage_alone, command_kind, command_usage, command_said, command_alone, command_asks}
use Rattle.command_replies.proofs.deciding.decide.Goals as goal

-- words of no form

pub returns-in_ok-usage-in-None-clause-said : goal.returns-in_ok-usage-in-None-clause-said
returns-in_ok-usage-in-None-clause-said g c =
    usage_said (command_of (map string_bytes c.args.words.now)) (g.T.Tree.content c.args.tree.now) c.in_ok-usage-in-None.field-0
    (sym c.in_ok-command_in.ensures ∙ c.in-None.is) c.in_ok-usage-in-None.ensures

pub returns-in_ok-usage-in-None-clause-said_alone : goal.returns-in_ok-usage-in-None-clause-said_alone
returns-in_ok-usage-in-None-clause-said_alone g c = λ asks.
    usage_alone (command_of (map string_bytes c.args.words.now)) c.in_ok-usage-in-None.field-0 (sym c.in_ok-command_in.ensures ∙ c.in-None.is)
    c.in_ok-usage-in-None.ensures

-- a command

pub returns-in-Some-clause-kind : goal.returns-in-Some-clause-kind
returns-in-Some-clause-kind g c = command_kind c.reply_to.result c.reply_to.ensures.kind

pub returns-in-Some-clause-usage : goal.returns-in-Some-clause-usage
returns-in-Some-clause-usage g c = command_usage (command_of (map string_bytes c.args.words.now)) c.reply_to.result c.reply_to.ensures.kind

pub returns-in-Some-clause-said : goal.returns-in-Some-clause-said
returns-in-Some-clause-said g c =
    command_said (command_of (map string_bytes c.args.words.now)) c.in-Some.command (sym c.in_ok-command_in.ensures ∙ c.in-Some.is)
    (g.T.Tree.content c.args.tree.now) c.reply_to.result c.reply_to.ensures.said

pub returns-in-Some-clause-said_alone : goal.returns-in-Some-clause-said_alone
returns-in-Some-clause-said_alone g c =
    command_alone (command_of (map string_bytes c.args.words.now)) c.in-Some.command (sym c.in_ok-command_in.ensures ∙ c.in-Some.is)
    c.reply_to.result c.reply_to.ensures.said_alone

pub returns-in-Some-clause-alone : goal.returns-in-Some-clause-alone
returns-in-Some-clause-alone g c =
    command_asks (command_of (map string_bytes c.args.words.now)) c.in-Some.command (sym c.in_ok-command_in.ensures ∙ c.in-Some.is) _
    c.reply_to.ensures.alone

pub returns-in-Some-clause-read : goal.returns-in-Some-clause-read
returns-in-Some-clause-read g c = λ failed.
    command_asks (command_of (map string_bytes c.args.words.now)) c.in-Some.command (sym c.in_ok-command_in.ensures ∙ c.in-Some.is) ⊥
    (c.reply_to.ensures.read failed)
