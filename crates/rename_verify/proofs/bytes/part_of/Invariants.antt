use Rattle.std.proofs.Common.{◌≡◌, take}
use Rattle.rename_verify.proofs.bytes.part_of.Given as goal

-- the bytes so far are the same
abbrev pub invariant-loop-at : goal.invariant-loop-at
invariant-loop-at l = take l.at l.old ≡ take l.at l.new
