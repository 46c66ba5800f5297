use Rattle.std.proofs.Common.{map, string_bytes, ap}
use Rattle.cli_words.specs.Words.{command_of}
use Rattle.command_replies.specs.Table.{seen}
use Rattle.rotor_run.proofs.Endings.{alone_is}
use Rattle.rotor_run.proofs.turns.run_alone.Goals as goal

pub returns-clause-run : goal.returns-clause-run
returns-clause-run g c =
    alone_is (command_of (map string_bytes c.args.words.now))
    (seen (g.T.Tree.faults c.args.tree) (g.S.Sink.faults c.args.out.now) (g.T.Tree.content c.args.tree) (g.S.Sink.taken c.args.out.now))
    (seen (g.T.Tree.faults c.rotor-status.new.tree) (g.S.Sink.faults c.rotor-status.new.out) (g.T.Tree.content c.rotor-status.new.tree)
    (g.S.Sink.taken c.rotor-status.new.out))
    c.rotor-status.result c.requires.asks (ap g.T.Tree.content (c.rotor-status.ensures.alone c.requires.asks)) c.requires.faults
    c.rotor-status.ensures.sink_fault
    (c.rotor-status.ensures.alone_said c.requires.asks)
