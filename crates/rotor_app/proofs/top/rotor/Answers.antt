use Rattle.std.proofs.Common.{◌≡◌, map, string_bytes, Option, subst}
use Rattle.tree_io.specs.Outside.{FileMap}
use Rattle.cli_words.specs.Words.{command_of}
use Rattle.command_replies.specs.Table.{seen, IsAsSaid, TreeStopped}
use Rattle.rotor_app.proofs.Endings.{answers, usage_only, alone_same, alone_said, alone_cut, tree_fault, sink_fault, tree_stopped, sink_stopped}
use Rattle.rotor_app.proofs.Endings.{unchanged, quiet_sink, done_said}
use Rattle.rotor_app.proofs.Concluded.{alone_writes}
use Rattle.command_replies.proofs.Accepting.{done_if_accepted}
use Rattle.command_replies.proofs.Undoing.{done_so, recoverable}
use Rattle.rotor_app.proofs.top.rotor.Goals as goal

pub returns-clause-answer : goal.returns-clause-answer
returns-clause-answer g c =
    answers (command_of (map string_bytes c.args.words.now))
    (seen (g.T.Tree.faults c.args.tree.now) (g.S.Sink.faults c.args.out.now) (g.T.Tree.content c.args.tree.now) (g.S.Sink.taken c.args.out.now))
    (seen (g.T.Tree.faults c.conclude.new.tree) (g.S.Sink.faults c.conclude.new.out) (g.T.Tree.content c.conclude.new.tree)
    (g.S.Sink.taken c.conclude.new.out))
    (c.conclude.new.tree ≡ c.args.tree.now) (c.conclude.new.out ≡ c.args.out.now) c.conclude.result c.conclude.ensures.ending

pub returns-clause-alone : goal.returns-clause-alone
returns-clause-alone g c =
    alone_same (command_of (map string_bytes c.args.words.now))
    (seen (g.T.Tree.faults c.args.tree.now) (g.S.Sink.faults c.args.out.now) (g.T.Tree.content c.args.tree.now) (g.S.Sink.taken c.args.out.now))
    (seen (g.T.Tree.faults c.conclude.new.tree) (g.S.Sink.faults c.conclude.new.out) (g.T.Tree.content c.conclude.new.tree)
    (g.S.Sink.taken c.conclude.new.out))
    (c.conclude.new.tree ≡ c.args.tree.now) (c.conclude.new.out ≡ c.args.out.now) c.conclude.result
    (alone_writes (command_of (map string_bytes c.args.words.now))) c.conclude.ensures.ending

pub returns-clause-alone_said : goal.returns-clause-alone_said
returns-clause-alone_said g c =
    alone_said (command_of (map string_bytes c.args.words.now))
    (seen (g.T.Tree.faults c.args.tree.now) (g.S.Sink.faults c.args.out.now) (g.T.Tree.content c.args.tree.now) (g.S.Sink.taken c.args.out.now))
    (seen (g.T.Tree.faults c.conclude.new.tree) (g.S.Sink.faults c.conclude.new.out) (g.T.Tree.content c.conclude.new.tree)
    (g.S.Sink.taken c.conclude.new.out))
    (c.conclude.new.tree ≡ c.args.tree.now) (c.conclude.new.out ≡ c.args.out.now) c.conclude.result
    (alone_writes (command_of (map string_bytes c.args.words.now))) c.conclude.ensures.ending

pub returns-clause-alone_cut : goal.returns-clause-alone_cut
returns-clause-alone_cut g c =
    alone_cut (command_of (map string_bytes c.args.words.now))
    (seen (g.T.Tree.faults c.args.tree.now) (g.S.Sink.faults c.args.out.now) (g.T.Tree.content c.args.tree.now) (g.S.Sink.taken c.args.out.now))
    (seen (g.T.Tree.faults c.conclude.new.tree) (g.S.Sink.faults c.conclude.new.out) (g.T.Tree.content c.conclude.new.tree)
    (g.S.Sink.taken c.conclude.new.out))
    (c.conclude.new.tree ≡ c.args.tree.now) (c.conclude.new.out ≡ c.args.out.now) c.conclude.result c.conclude.ensures.ending

pub returns-clause-usage : goal.returns-clause-usage
returns-clause-usage g c =
    usage_only (command_of (map string_bytes c.args.words.now))
    (seen (g.T.Tree.faults c.args.tree.now) (g.S.Sink.faults c.args.out.now) (g.T.Tree.content c.args.tree.now) (g.S.Sink.taken c.args.out.now))
    (seen (g.T.Tree.faults c.conclude.new.tree) (g.S.Sink.faults c.conclude.new.out) (g.T.Tree.content c.conclude.new.tree)
    (g.S.Sink.taken c.conclude.new.out))
    (c.conclude.new.tree ≡ c.args.tree.now) (c.conclude.new.out ≡ c.args.out.now) c.conclude.result c.conclude.ensures.ending

pub returns-clause-tree_fault : goal.returns-clause-tree_fault
returns-clause-tree_fault g c =
    tree_fault (command_of (map string_bytes c.args.words.now))
    (seen (g.T.Tree.faults c.args.tree.now) (g.S.Sink.faults c.args.out.now) (g.T.Tree.content c.args.tree.now) (g.S.Sink.taken c.args.out.now))
    (seen (g.T.Tree.faults c.conclude.new.tree) (g.S.Sink.faults c.conclude.new.out) (g.T.Tree.content c.conclude.new.tree)
    (g.S.Sink.taken c.conclude.new.out))
    (c.conclude.new.tree ≡ c.args.tree.now) (c.conclude.new.out ≡ c.args.out.now) c.conclude.result c.conclude.ensures.ending

pub returns-clause-sink_fault : goal.returns-clause-sink_fault
returns-clause-sink_fault g c =
    sink_fault (command_of (map string_bytes c.args.words.now))
    (seen (g.T.Tree.faults c.args.tree.now) (g.S.Sink.faults c.args.out.now) (g.T.Tree.content c.args.tree.now) (g.S.Sink.taken c.args.out.now))
    (seen (g.T.Tree.faults c.conclude.new.tree) (g.S.Sink.faults c.conclude.new.out) (g.T.Tree.content c.conclude.new.tree)
    (g.S.Sink.taken c.conclude.new.out))
    (c.conclude.new.tree ≡ c.args.tree.now) (c.conclude.new.out ≡ c.args.out.now) c.conclude.result c.conclude.ensures.ending

pub returns-clause-tree_stopped : goal.returns-clause-tree_stopped
returns-clause-tree_stopped g c =
    tree_stopped (command_of (map string_bytes c.args.words.now))
    (seen (g.T.Tree.faults c.args.tree.now) (g.S.Sink.faults c.args.out.now) (g.T.Tree.content c.args.tree.now) (g.S.Sink.taken c.args.out.now))
    (seen (g.T.Tree.faults c.conclude.new.tree) (g.S.Sink.faults c.conclude.new.out) (g.T.Tree.content c.conclude.new.tree)
    (g.S.Sink.taken c.conclude.new.out))
    (c.conclude.new.tree ≡ c.args.tree.now) (c.conclude.new.out ≡ c.args.out.now) c.conclude.result c.conclude.ensures.ending

pub returns-clause-sink_stopped : goal.returns-clause-sink_stopped
returns-clause-sink_stopped g c =
    sink_stopped (command_of (map string_bytes c.args.words.now))
    (seen (g.T.Tree.faults c.args.tree.now) (g.S.Sink.faults c.args.out.now) (g.T.Tree.content c.args.tree.now) (g.S.Sink.taken c.args.out.now))
    (seen (g.T.Tree.faults c.conclude.new.tree) (g.S.Sink.faults c.conclude.new.out) (g.T.Tree.content c.conclude.new.tree)
    (g.S.Sink.taken c.conclude.new.out))
    (c.conclude.new.tree ≡ c.args.tree.now) (c.conclude.new.out ≡ c.args.out.now) c.conclude.result c.conclude.ensures.ending

pub returns-clause-unchanged : goal.returns-clause-unchanged
returns-clause-unchanged g c =
    unchanged (command_of (map string_bytes c.args.words.now))
    (seen (g.T.Tree.faults c.args.tree.now) (g.S.Sink.faults c.args.out.now) (g.T.Tree.content c.args.tree.now) (g.S.Sink.taken c.args.out.now))
    (seen (g.T.Tree.faults c.conclude.new.tree) (g.S.Sink.faults c.conclude.new.out) (g.T.Tree.content c.conclude.new.tree)
    (g.S.Sink.taken c.conclude.new.out))
    (c.conclude.new.tree ≡ c.args.tree.now) (c.conclude.new.out ≡ c.args.out.now) c.conclude.result c.conclude.ensures.ending

pub returns-clause-quiet : goal.returns-clause-quiet
returns-clause-quiet g c =
    quiet_sink (command_of (map string_bytes c.args.words.now))
    (seen (g.T.Tree.faults c.args.tree.now) (g.S.Sink.faults c.args.out.now) (g.T.Tree.content c.args.tree.now) (g.S.Sink.taken c.args.out.now))
    (seen (g.T.Tree.faults c.conclude.new.tree) (g.S.Sink.faults c.conclude.new.out) (g.T.Tree.content c.conclude.new.tree)
    (g.S.Sink.taken c.conclude.new.out))
    (c.conclude.new.tree ≡ c.args.tree.now) (c.conclude.new.out ≡ c.args.out.now) c.conclude.result c.conclude.ensures.ending

pub returns-clause-renamed : goal.returns-clause-renamed
returns-clause-renamed g c = λ done files held.
    done_so c.recall_laws.ensures (command_of (map string_bytes c.args.words.now)) files (λ reply. IsAsSaid reply files
    (seen (g.T.Tree.faults c.args.tree.now) (g.S.Sink.faults c.args.out.now) (g.T.Tree.content c.args.tree.now) (g.S.Sink.taken c.args.out.now))
    (seen (g.T.Tree.faults c.conclude.new.tree) (g.S.Sink.faults c.conclude.new.out) (g.T.Tree.content c.conclude.new.tree)
    (g.S.Sink.taken c.conclude.new.out)) c.conclude.result) (
    done_said (command_of (map string_bytes c.args.words.now))
    (seen (g.T.Tree.faults c.args.tree.now) (g.S.Sink.faults c.args.out.now) (g.T.Tree.content c.args.tree.now) (g.S.Sink.taken c.args.out.now))
    (seen (g.T.Tree.faults c.conclude.new.tree) (g.S.Sink.faults c.conclude.new.out) (g.T.Tree.content c.conclude.new.tree)
    (g.S.Sink.taken c.conclude.new.out))
    (c.conclude.new.tree ≡ c.args.tree.now) (c.conclude.new.out ≡ c.args.out.now) c.conclude.result c.conclude.ensures.ending done files held)

pub returns-clause-recoverable : goal.returns-clause-recoverable
returns-clause-recoverable g c = λ fault held before now left.
    recoverable c.recall_laws.ensures (command_of (map string_bytes c.args.words.now)) held now (
    subst (λ (o : Option FileMap). TreeStopped (command_of (map string_bytes c.args.words.now)) held o) left (
    tree_stopped (command_of (map string_bytes c.args.words.now))
    (seen (g.T.Tree.faults c.args.tree.now) (g.S.Sink.faults c.args.out.now) (g.T.Tree.content c.args.tree.now) (g.S.Sink.taken c.args.out.now))
    (seen (g.T.Tree.faults c.conclude.new.tree) (g.S.Sink.faults c.conclude.new.out) (g.T.Tree.content c.conclude.new.tree)
    (g.S.Sink.taken c.conclude.new.out))
    (c.conclude.new.tree ≡ c.args.tree.now) (c.conclude.new.out ≡ c.args.out.now) c.conclude.result c.conclude.ensures.ending fault held before))

pub returns-clause-accepted : goal.returns-clause-accepted
returns-clause-accepted g c = λ files held quiet memory.
    done_if_accepted c.recall_laws.ensures (command_of (map string_bytes c.args.words.now)) files
    (seen (g.T.Tree.faults c.args.tree.now) (g.S.Sink.faults c.args.out.now) (g.T.Tree.content c.args.tree.now) (g.S.Sink.taken c.args.out.now))
    (seen (g.T.Tree.faults c.conclude.new.tree) (g.S.Sink.faults c.conclude.new.out) (g.T.Tree.content c.conclude.new.tree)
    (g.S.Sink.taken c.conclude.new.out)) c.conclude.result (
    answers (command_of (map string_bytes c.args.words.now))
    (seen (g.T.Tree.faults c.args.tree.now) (g.S.Sink.faults c.args.out.now) (g.T.Tree.content c.args.tree.now) (g.S.Sink.taken c.args.out.now))
    (seen (g.T.Tree.faults c.conclude.new.tree) (g.S.Sink.faults c.conclude.new.out) (g.T.Tree.content c.conclude.new.tree)
    (g.S.Sink.taken c.conclude.new.out))
    (c.conclude.new.tree ≡ c.args.tree.now) (c.conclude.new.out ≡ c.args.out.now) c.conclude.result c.conclude.ensures.ending files held quiet memory)
