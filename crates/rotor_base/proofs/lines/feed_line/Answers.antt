use Rattle.std.proofs.Common.{◌<◌, length, arith}
use Rattle.std.proofs.lemmas.Grind.{common_steps}
use Rattle.rotor_base.proofs.LineCuts.{feeds_cut}
use Rattle.rotor_base.proofs.lines.feed_line.Goals as goal

pub returns-clause-line : goal.returns-clause-line
returns-clause-line c =
    let some : 0 < length c.args.bytes.now = grind (arith, common_steps) in
    rw (c.cut_feed.ensures.line, c.cut_feed.ensures.rest) (feeds_cut c.args.bytes.now some)
