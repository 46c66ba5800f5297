use Rattle.std.proofs.Common.{◌≡◌, ◌++◌, flat_map, map, string_bytes, take}
use Rattle.report.specs.Text.{ended}
use Rattle.rename_batch.specs.Text.{undo_line}
use Rattle.rename_batch.proofs.text.push_undos.Given as goal

-- the lines of the steps back so far are added
abbrev pub invariant-loop-undo : goal.invariant-loop-undo
invariant-loop-undo l = l.text.items ≡ l.fn.text.items ++ flat_map ended (map (undo_line (map string_bytes l.names)) (take l.undo-index l.undos))
