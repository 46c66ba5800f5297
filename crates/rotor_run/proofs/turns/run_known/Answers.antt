use Rattle.std.proofs.Common.{map, string_bytes, sym, subst}
use Rattle.cli_words.specs.Words.{command_of}
use Rattle.known.specs.Known.{known_files, known_tree}
use Rattle.rotor_run.specs.Run.{IsRun}
use Rattle.rotor_run.proofs.Endings.{as_run}
use Rattle.rotor_run.proofs.turns.run_known.Goals as goal

pub returns-clause-run : goal.returns-clause-run
returns-clause-run g c =
    let request = command_of (map string_bytes c.args.words.now) in
    let folder = g.T.Tree.content (known_tree c.args.known) in
    subst (λ (t : g.row.T.Denot). IsRun request folder (g.T.Tree.content t) (g.S.Sink.taken c.args.out.now)
    (g.S.Sink.taken c.run_over-status.new.out) c.run_over-status.result)
    (sym c.into_tree.ensures)
    (as_run request folder (g.T.Tree.content (known_tree c.run_over-status.new.known)) (known_files c.run_over-status.new.known)
    (g.S.Sink.taken c.args.out.now) (g.S.Sink.taken c.run_over-status.new.out) c.run_over-status.result c.run_over-status.ensures.run)
