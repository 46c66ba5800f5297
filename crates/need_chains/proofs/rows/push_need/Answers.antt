use Rattle.std.proofs.Common.{◌≡◌, false, Some, bytes_eq, ap, sym, ◌∙◌}
use Rattle.name_tables.specs.Names.{at}
use Rattle.need_chains.specs.Rows.{hits}
use Rattle.need_chains.proofs.Rowing.{need_pushed}
use Rattle.need_chains.proofs.rows.push_need.Goals as goal

pub returns-in_ok-push : goal.returns-in_ok-push
returns-in_ok-push c = λ sources are n number.
    let there : at c.args.places.now c.args.head.now ≡ Some c.in-Some.needed = sym c.get.ensures ∙ c.in-Some.is in
    let other : bytes_eq c.args.head.now c.args.unit.now ≡ false = cc in
    ap (hits sources n number) c.in_ok-push.ensures.items
    ∙ need_pushed c.args.places.now sources c.args.unit.now c.args.head.now c.args.row.now.items c.in-Some.needed n number are there other
