use Rattle.std.proofs.Common.{◌<◌, length, arith}
use Rattle.std.proofs.lemmas.Grind.{common_steps}
use Rattle.rotor_base.proofs.LineCuts.{lines_whole, lines_cut}
use Rattle.rotor_base.proofs.lines.next_line.Goals as goal

pub returns-then-line-bytes-clause-line : goal.returns-then-line-bytes-clause-line
returns-then-line-bytes-clause-line c =
    let some : 0 < length c.args.bytes.now = grind (arith, common_steps) in
    lines_whole _ _ _ some c.cut_feed.ensures.line c.cut_feed.ensures.rest c.if-line-bytes.true

pub returns-clause-line : goal.returns-clause-line
returns-clause-line c = rw c.without_return.ensures (lines_cut _ _ _ c.cut_feed.ensures.line c.cut_feed.ensures.rest c.if-line-bytes.false)
