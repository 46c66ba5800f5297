use Rattle.std.proofs.Common.{◌≡◌, ◌++◌, length, map}
use Rattle.std.specs.Str.Lines.{lines}
use Rattle.folder_messages.proofs.unit_lines.unit_lines.Given as goal

-- the lines so far, and those of what is left
abbrev pub invariant-loop-line : goal.invariant-loop-line
invariant-loop-line l = map (λ line. line.now) l.list.items ++ lines l.rest ≡ lines l.bytes

abbrev pub decreases-loop-line : goal.decreases-loop-line
decreases-loop-line l = length l.rest
