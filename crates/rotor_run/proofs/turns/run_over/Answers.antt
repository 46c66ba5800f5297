use Rattle.std.proofs.Common.{map, string_bytes, refl, ap, subst, ◌∙◌}
use Rattle.cli_words.specs.Words.{command_of}
use Rattle.known.specs.Known.{files_of, known_faults, known_files, known_tree}
use Rattle.rotor_run.specs.Run.{IsRunOver}
use Rattle.rotor_run.proofs.Endings.{held_of, over_known, same_folder, stopped_before, stopped_over}
use Rattle.rotor_run.proofs.turns.run_over.Goals as goal

pub returns-in_default : goal.returns-in_default
returns-in_default g c =
    let request = command_of (map string_bytes c.args.words.now) in
    let folder = g.T.Tree.content (known_tree c.args.known.now) in
    let was = g.T.Tree.content (known_tree c.loop.known) in
    let now = g.T.Tree.content (known_tree c.rotor.new.tree) in
    let held = files_of was (known_files c.loop.known) in
    let left = files_of now (known_files c.rotor.new.tree) in
    record {
      run =
          subst (λ (o : g.row.S.Denot). IsRunOver request folder left (g.S.Sink.taken o) (g.S.Sink.taken c.rotor.new.out) c.rotor.result)
          c.loop.invariant.out
          (over_known request folder held left (held_of folder was (known_files c.loop.known) c.loop.invariant.content) (known_faults c.loop.known)
          (known_faults c.rotor.new.tree) (g.S.Sink.faults c.loop.out) (g.S.Sink.faults c.rotor.new.out) (g.S.Sink.taken c.loop.out)
          (g.S.Sink.taken c.rotor.new.out) c.rotor.result c.loop.invariant.faults (ap g.S.Sink.faults c.loop.invariant.out ∙ c.requires.out)
          c.rotor.ensures.tree_fault c.rotor.ensures.sink_fault (c.rotor.ensures.answer held refl) (λ e. c.rotor.ensures.renamed e held refl));
      unchanged = λ refused.
          same_folder now was (known_files c.rotor.new.tree) (known_files c.loop.known)
          (g.met.T.Outer.modelled (known_tree c.rotor.new.tree) (known_tree c.loop.known)) (c.rotor.ensures.unchanged refused)
          ∙ c.loop.invariant.content;
      stopped = λ fault.
          stopped_over request folder was now (known_files c.loop.known) (known_files c.rotor.new.tree) c.loop.invariant.content
          (g.met.T.Outer.modelled (known_tree c.rotor.new.tree) (known_tree c.loop.known)) (c.rotor.ensures.tree_stopped fault held refl);
      quiet = λ e. c.rotor.ensures.quiet e ∙ c.loop.invariant.out;
    }

pub returns-in-Err-Failed-clause-stopped : goal.returns-in-Err-Failed-clause-stopped
returns-in-Err-Failed-clause-stopped g c = λ fault.
    stopped_before (command_of (map string_bytes c.args.words.now)) (g.T.Tree.content (known_tree c.args.known.now))
    (g.T.Tree.content (known_tree c.learn.new.self))
    (c.learn.ensures.content
    ∙ same_folder (g.T.Tree.content (known_tree c.rotor.new.tree)) (g.T.Tree.content (known_tree c.loop.known)) (known_files c.rotor.new.tree)
    (known_files c.loop.known) (g.met.T.Outer.modelled (known_tree c.rotor.new.tree) (known_tree c.loop.known)) (c.in-Memory.ensures.unchanged tt)
    ∙ c.loop.invariant.content)
