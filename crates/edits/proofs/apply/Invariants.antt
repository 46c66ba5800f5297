use Rattle.std.proofs.Common.{◌≡◌, ◌++◌, length, drop}
use Rattle.edits.specs.Replaced.{AreInOrder, pieces}
use Rattle.edits.proofs.apply.Given as goal

-- the spans that are left are in order, and the bytes so far and the pieces that are left make the whole
abbrev pub invariant-loop-edit : goal.invariant-loop-edit
invariant-loop-edit l =
    AreInOrder l.from (length l.src) (drop l.edit-index l.list)
    × (l.bytes.items ++ pieces l.from l.src (drop l.edit-index l.list) ≡ pieces 0 l.src l.list)
