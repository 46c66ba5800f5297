-- The folder counted no fault so far and was left, and the output was not called.
use Rattle.std.proofs.Common.{◌≡◌}
use Rattle.known.specs.Known.{known_faults, known_tree}
use Rattle.rotor_run.proofs.turns.run_over.Given as goal

abbrev pub invariant-loop : goal.invariant-loop
invariant-loop g l = record {
  faults : known_faults l.known ≡ 0;
  content : g.T.Tree.content (known_tree l.known) ≡ g.T.Tree.content (known_tree l.initial.known);
  out : l.out ≡ l.initial.out;
}
