use Rattle.std.proofs.Common.{map, string_bytes}
use Rattle.report.specs.Lines.{declaration_line}
use Rattle.report.proofs.Joins.{lines_more}
use Rattle.report.proofs.lines.add_declarations.Goals as goal

pub loop-at-preserved : goal.loop-at-preserved
loop-at-preserved c =
    lines_more (declaration_line (map string_bytes c.args.names.now)) c.as_slice-places.result.now c.loop-at.at-index _ c.args.lines.now
    c.loop-at.lines _ _
    c.loop-at-test.true c.in_ok-push.ensures.ok c.in_ok-declaration_line.ensures c.loop-at.invariant
