use Rattle.std.proofs.Common.{sym, ◌∙◌, arith}
use Rattle.std.proofs.lemmas.Bool.{true≢false}
use Rattle.std.proofs.lemmas.List.{take_all, length-map}
use Rattle.std.proofs.lemmas.List.Elements.{All-more}
use Rattle.unit_order.specs.Order.{LiesOnCycle}
use Rattle.unit_order.specs.Positions.{views, blank}
use Rattle.ml_trees.specs.View.{view_unit}
use Rattle.unit_order.proofs.cycle.first_on_cycle.Goals as goal

pub loop-at-preserved : goal.loop-at-preserved
loop-at-preserved c =
    let us = views c.args.units.now in
    All-more (λ u. LiesOnCycle us u → ⊥) us c.loop-at.at blank (omega (arith, c.loop-at-test.true, length-map c.args.units.now view_unit))
    c.loop-at.invariant
    (λ chain. true≢false (sym (c.in_ok-leads_back.ensures.no chain) ∙ c.if-branch.false))

pub returns-clause-none : goal.returns-clause-none
returns-clause-none c =
    let us = views c.args.units.now in
    let e = take_all c.loop-at.at us (omega (arith, c.loop-at-test.false, length-map c.args.units.now view_unit)) in
    rw e at c.loop-at.invariant
