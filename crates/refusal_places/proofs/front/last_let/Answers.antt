use Rattle.std.proofs.Common.{sym, ◌∙◌, arith}
use Rattle.refusal_places.proofs.Lets.{found_at, ins_at, none_at}
use Rattle.refusal_places.proofs.front.last_let.Goals as goal

pub returns-then-is_without_in-clause-value : goal.returns-then-is_without_in-clause-value
returns-then-is_without_in-clause-value c =
    let i = c.loop-at.invariant in
    found_at c.args.tokens.now c.loop-at.at c.loop-at.ins _ c.loop-at-test.true (omega (arith, i.within)) i.none i.ins
    (sym c.is_without_in.ensures ∙ c.if-is_without_in.true)

pub loop-at-preserved : goal.loop-at-preserved
loop-at-preserved c =
    let i = c.loop-at.invariant in
    let some = c.loop-at-test.true in
    record {
      within = omega (arith, c.ins_before-ins.ensures.within, i.within, some);
      none = none_at c.args.tokens.now c.loop-at.at c.loop-at.ins _ some (omega (arith, i.within)) i.none i.ins
          (sym c.is_without_in.ensures ∙ c.if-is_without_in.false);
      ins = c.ins_before-ins.ensures.value ∙ ins_at c.args.tokens.now c.loop-at.at c.loop-at.ins _ some (omega (arith, i.within)) i.ins;
    }
