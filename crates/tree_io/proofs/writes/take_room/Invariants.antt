use Rattle.std.proofs.Common.{◌≡◌, take}
use Rattle.tree_io.specs.Outside.{KeepsRoom}
use Rattle.tree_io.specs.Writes.{HasRoom}
use Rattle.tree_io.proofs.writes.take_room.Given as goal

-- there is room for the files so far, and nothing else has changed
abbrev pub invariant-loop-file : goal.invariant-loop-file
invariant-loop-file g l = record {
  room : HasRoom (g.T.Tree.room_for l.tree) (take l.file-index l.writes);
  content : g.T.Tree.content l.tree ≡ g.T.Tree.content l.initial.tree;
  count : g.T.Tree.faults l.tree ≡ g.T.Tree.faults l.initial.tree;
  kept : KeepsRoom (g.T.Tree.room_for l.initial.tree) (g.T.Tree.room_for l.tree);
  steady : g.T.Tree.is_steady l.initial.tree → g.T.Tree.is_steady l.tree;
}
