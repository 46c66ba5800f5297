-- The files so far are read and keep the limits, so the first with which they are over is among the others.
use Rattle.std.proofs.Common.{◌≡◌, ◌≤◌, false, Some, length, map, take, sum_by, string_bytes}
use Rattle.rotor_base.specs.Files.{are_over, names_of}
use Rattle.tree_io.specs.Outside.{FileMap, KeepsRoom}
use Rattle.project_load.specs.Load.{files_in}
use Rattle.project_load.specs.Naming.{seen}
use Rattle.project_load.proofs.reading.read_sources.Given as goal

abbrev pub invariant-loop-name : goal.invariant-loop-name
invariant-loop-name g l = record {
  named : names_of l.files.items ≡ map string_bytes (take l.name-index l.names);
  total : l.total ≡ sum_by (λ file. length file.bytes) l.files.items;
  within : l.total ≤ 8388608;
  passed : are_over l.files.items ≡ false;
  read : (held : FileMap) → seen l.naming (g.T.Tree.content l.initial.tree) ≡ Some held
      → l.files.items ≡ files_in held (map string_bytes (take l.name-index l.names));
  content : g.T.Tree.content l.tree ≡ g.T.Tree.content l.initial.tree;
  room : KeepsRoom (g.T.Tree.room_for l.initial.tree) (g.T.Tree.room_for l.tree);
  count : g.T.Tree.faults l.tree ≡ g.T.Tree.faults l.initial.tree;
  steady : g.T.Tree.is_steady l.initial.tree → g.T.Tree.is_steady l.tree;
}
