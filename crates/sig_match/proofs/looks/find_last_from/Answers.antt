use Rattle.std.proofs.Common.{◌≡◌, ◌-◌, ◌≤◌, ◌∙◌, ap, arith, sym, drop}
use Rattle.shape_core.specs.Looks as pure
use Rattle.shape_core.specs.Node.{entries_of}
use Rattle.sig_match.specs.Tests.{test_of}
use Rattle.shape_core.proofs.Lasts.{found_before}
use Rattle.sig_match.proofs.Behind.{kept_found, none_kept}
use Rattle.sig_match.proofs.looks.find_last_from.Goals as goal

pub returns-then-passes : goal.returns-then-passes
returns-then-passes c =
    let t = test_of c.args.test c.args.watch.now in
    let i = c.loop-left.left - 1 in
    let low : c.args.from ≤ i = omega (arith, c.loop-left-test.true) in
    kept_found c.args.from i c.place_of.result c.loop-left.darks (pure.last_where t (entries_of c.args.list.now)) low
    (found_before t c.args.list.now c.loop-left.left c.index-list-left.result c.in-Val.x c.in-Val.goal
    c.place_of.result c.loop-left.darks c.passes.result (omega (arith, c.loop-left-test.true)) c.loop-left.invariant.within c.index-list-left.is
    c.in-Val.is c.loop-left.invariant.none c.loop-left.invariant.count
    (c.passes.ensures ∙ ap (λ z. t z c.in-Val.goal) c.as_bytes.ensures) c.if-passes.true c.place_of.ensures)

pub returns : goal.returns
returns c =
    let t = test_of c.args.test c.args.watch.now in
    let end : c.loop-left.left ≡ c.args.from = omega (arith, c.loop-left-test.false, c.loop-left.invariant.above) in
    none_kept t c.args.from c.args.list.now
    (ap (λ n. pure.last_where t (entries_of (drop n c.args.list.now))) (sym end) ∙ c.loop-left.invariant.none)
