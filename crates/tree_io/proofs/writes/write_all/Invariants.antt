use Rattle.std.proofs.Common.{◌≡◌, [], take, drop}
use Rattle.tree_io.specs.Outside.{KeepsRoom}
use Rattle.tree_io.specs.Writes.{HasRoom, Written}
use Rattle.tree_io.proofs.writes.write_all.Given as goal

-- the files so far are written, and there is room for the rest
abbrev pub invariant-loop-file : goal.invariant-loop-file
invariant-loop-file g l = record {
  written : Written (take l.file-index l.writes) (g.T.Tree.content l.initial.tree) (g.T.Tree.content l.tree);
  room : HasRoom (g.T.Tree.room_for l.tree) (drop l.file-index l.writes);
  count : g.T.Tree.faults l.tree ≡ g.T.Tree.faults l.initial.tree;
  kept : KeepsRoom (g.T.Tree.room_for l.initial.tree) (g.T.Tree.room_for l.tree);
  none : l.writes ≡ [] → l.tree ≡ l.initial.tree;
  steady : g.T.Tree.is_steady l.initial.tree → g.T.Tree.is_steady l.tree;
}
