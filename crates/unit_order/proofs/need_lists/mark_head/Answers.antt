use Rattle.std.proofs.Common.{◌≡◌, false, Some, None, bytes_eq, sym, ◌∙◌, arith}
use Rattle.name_tables.specs.Names.{at}
use Rattle.unit_order.proofs.Positioned.{marks_none, marks_one}
use Rattle.unit_order.proofs.need_lists.mark_head.Goals as goal

pub returns-then-at-row-clause-marked : goal.returns-then-at-row-clause-marked
returns-then-at-row-clause-marked c names h size p lt =
    let there : at c.args.positions.now c.args.head.now ≡ Some c.in-Some.at = sym c.get.ensures ∙ c.in-Some.is in
    let other : bytes_eq c.args.head.now c.args.own.now ≡ false = cc in
    marks_one c.args.positions.now names h c.args.row.now c.args.own.now c.args.head.now c.in-Some.at there other size p lt

pub returns-else-at-row-clause-marked : goal.returns-else-at-row-clause-marked
returns-else-at-row-clause-marked c names h size p lt =
    let there : at c.args.positions.now c.args.head.now ≡ Some c.in-Some.at = sym c.get.ensures ∙ c.in-Some.is in
    absurd (omega (arith, (h.named c.args.head.now c.in-Some.at there).0, size, c.if-at-row.false))

pub returns-in_default-clause-marked : goal.returns-in_default-clause-marked
returns-in_default-clause-marked c names h size p lt =
    let there : at c.args.positions.now c.args.head.now ≡ None = sym c.get.ensures ∙ c.in_default.is in
    marks_none c.args.positions.now names h c.args.row.now c.args.own.now c.args.head.now there p lt
