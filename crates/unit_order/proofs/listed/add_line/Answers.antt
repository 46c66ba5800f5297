use Rattle.std.proofs.Common.{◌<◌, length, sym, ap, ◌∙◌, arith}
use Rattle.std.specs.Str.{bytes_eq}
use Rattle.std.proofs.lemmas.Grind.{common_steps}
use Rattle.unit_order.specs.Positions.{views, names_at}
use Rattle.unit_order.proofs.Named.{add_named, is_found, filled}
use Rattle.unit_order.proofs.listed.add_line.Goals as goal

pub returns-in_ok-push-clause-names : goal.returns-in_ok-push-clause-names
returns-in_ok-push-clause-names c =
    let some : 0 < length c.args.line.now = grind (arith, common_steps) in
    ap (names_at (views c.args.units.now)) c.in_ok-push.ensures.items
    ∙ (add_named c.args.units.now c.args.order.now.items c.args.line.now c.in-Some.at (filled c.args.line.now some)
    (sym c.unit_named.ensures ∙ c.in-Some.is)).1

pub returns-in_default-clause-names : goal.returns-in_default-clause-names
returns-in_default-clause-names c =
    let some : 0 < length c.args.line.now = grind (arith, common_steps) in
    absurd (is_found (λ unit. bytes_eq unit.name c.args.line.now) c.args.units.now (sym c.unit_named.ensures ∙ c.in_default.is)
    (c.requires.named (filled c.args.line.now some)))
