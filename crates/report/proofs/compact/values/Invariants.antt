use Rattle.std.proofs.Common.{◌≡◌, map, take}
use Rattle.report.specs.Notice.{value_of}
use Rattle.report.proofs.compact.values.Given as goal

-- those so far
abbrev pub invariant-loop-part : goal.invariant-loop-part
invariant-loop-part l = l.values ≡ map value_of (take l.part-index l.parts)
