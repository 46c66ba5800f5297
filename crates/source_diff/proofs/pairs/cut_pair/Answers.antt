use Rattle.std.proofs.Common.{◌+◌, ◌<◌, length, arith}
use Rattle.std.proofs.lemmas.Grind.{common_steps}
use Rattle.source_diff.proofs.Cuts.{pairs_cut}
use Rattle.source_diff.proofs.pairs.cut_pair.Goals as goal
use Rattle.source_diff.proofs.pairs.cut_pair.Goals.{else-is_empty-via-then-is_empty+else-is_empty-2, else-is_empty-via-else-is_empty}

pub returns-clause-pair : goal.returns-clause-pair
returns-clause-pair c =
    let some : 0 < length c.args.old.now + length c.args.new.now
    = elim c.else-is_empty.branch [
      | else-is_empty-via-then-is_empty+else-is_empty-2 w ↦ grind (arith, common_steps)
      | else-is_empty-via-else-is_empty w ↦ grind (arith, common_steps)
    ] in
    rw (c.cut_line.ensures.line, c.cut_line.ensures.rest, c.cut_line-2.ensures.line, c.cut_line-2.ensures.rest)
    (pairs_cut c.args.old.now c.args.new.now some)
