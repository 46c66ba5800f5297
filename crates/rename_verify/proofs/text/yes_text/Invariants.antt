use Rattle.std.proofs.Common.{◌≡◌, ◌∷◌, length, map, string_bytes, take}
use Rattle.std.specs.Prelude.{flat_map}
use Rattle.report.specs.Text.{ended}
use Rattle.report.specs.Verify.{verified_line}
use Rattle.rename_verify.specs.Text.{change_line}
use Rattle.rename_verify.proofs.text.yes_text.Given as goal

-- the lines so far
abbrev pub invariant-loop-change : goal.invariant-loop-change
invariant-loop-change l = l.bytes.items ≡ flat_map ended
    (verified_line (length l.changes) ∷ map (change_line (map string_bytes l.names)) (take l.change-index l.changes))
