use Rattle.std.proofs.Common.{Option, map, string_bytes, subst}
use Rattle.tree_io.specs.Outside.{FileMap}
use Rattle.cli_words.specs.Words.{command_of}
use Rattle.rotor_run.specs.Run.{IsRun}
use Rattle.rotor_run.proofs.turns.run_command.Goals as goal

pub returns-clause-run : goal.returns-clause-run
returns-clause-run g c =
    subst (λ (folder : Option FileMap). IsRun (command_of (map string_bytes c.args.words.now)) folder (g.T.Tree.content c.run_known.result.folder)
    (g.S.Sink.taken c.args.out.now) (g.S.Sink.taken c.run_known.new.out) c.run_known.result.status)
    c.in-Ok.ensures.content c.run_known.ensures.run
