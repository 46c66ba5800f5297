use Rattle.std.proofs.Common.{◌≡◌, ◌++◌, flat_map, map, string_bytes, take}
use Rattle.report.specs.Text.{ended}
use Rattle.rename_batch.specs.Text.{change_line}
use Rattle.rename_batch.proofs.text.push_changes.Given as goal

-- the lines of the steps so far are added
abbrev pub invariant-loop-change : goal.invariant-loop-change
invariant-loop-change l = l.text.items ≡ l.fn.text.items ++ flat_map ended
    (map (change_line (map string_bytes l.names)) (take l.change-index l.changes))
