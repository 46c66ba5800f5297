use Rattle.std.proofs.Common.{◌≡◌, ◌+◌, drop}
use Rattle.edits.specs.Replaced.{AreInOrder}
use Rattle.edits.proofs.Pieces.{pieces_len}
use Rattle.edits.proofs.new_len.Given as goal

-- the spans that are left are in order, and the length so far and that of the pieces that are left make the whole
abbrev pub invariant-loop-edit : goal.invariant-loop-edit
invariant-loop-edit l =
    AreInOrder l.from l.src_len (drop l.edit-index l.list)
    × (l.len + pieces_len l.from l.src_len (drop l.edit-index l.list) ≡ pieces_len 0 l.src_len l.list)
