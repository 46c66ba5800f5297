use Rattle.std.proofs.Common.{◌-◌, ap, sym, unwrap_or, ◌∙◌, arith}
use Rattle.unit_heads.proofs.Counted.{count_less, counted}
use Rattle.unit_heads.proofs.counts.Counts.take_out.Goals as goal

pub returns-in-Some : goal.returns-in-Some
returns-in-Some c =
    count_less c.args.self.now (record { numbers = c.set.new.self }) c.args.name.now c.saturating_sub.result
    (c.saturating_sub.ensures ∙ ap (λ o. unwrap_or o 0 - 1) (sym c.in-Some.is ∙ c.get.ensures)) c.set.ensures

pub returns-in_default : goal.returns-in_default
returns-in_default c list are =
    let none = ap (λ o. unwrap_or o 0) (sym c.get.ensures ∙ c.in_default.is) in
    absurd (omega (arith, none, counted c.args.self.now c.args.name.now list are))
