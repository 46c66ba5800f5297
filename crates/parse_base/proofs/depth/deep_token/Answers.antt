use Rattle.std.proofs.Common.{◌+◌, refl, ◌∙◌, arith}
use Rattle.parse_base.specs.Nesting.{marks}
use Rattle.parse_base.proofs.MarkSteps.{one_more_token, behind_next, no_marks, shallow_none, shallow_more, nesting_is}
use Rattle.parse_base.proofs.depth.deep_token.Goals as goal

pub loop-at-init : goal.loop-at-init
loop-at-init c = record {
  stack = no_marks c.args.tokens.now c.new-marks.result.items c.new-marks.ensures.items;
  behind = refl;
  shallow = λ k h. shallow_none c.args.tokens.now k h;
}

pub returns-then-len-gt-MAX_NESTING : goal.returns-then-len-gt-MAX_NESTING
returns-then-len-gt-MAX_NESTING c =
    let ts = c.args.tokens.now in
    let at = c.loop-at.at in
    let inv = c.loop-at.invariant in
    let e = one_more_token ts at c.loop-at.before c.role_at-here.result c.role_at-next.result _ _ c.in_ok-step.ensures inv.stack inv.behind
    c.role_at-here.ensures c.role_at-next.ensures in
    let n = nesting_is ts (at + 1) c.step.new.marks.items e in
    rw c.number.ensures (record {
      there = omega arith;
      over = omega (arith, n, c.len.ensures, c.step.new.marks.ok.0);
      first = λ k lt. inv.shallow k (omega (arith, lt));
    })

pub loop-at-preserved : goal.loop-at-preserved
loop-at-preserved c =
    let ts = c.args.tokens.now in
    let at = c.loop-at.at in
    let inv = c.loop-at.invariant in
    let e = one_more_token ts at c.loop-at.before c.role_at-here.result c.role_at-next.result _ _ c.in_ok-step.ensures inv.stack inv.behind
    c.role_at-here.ensures c.role_at-next.ensures in
    let n = nesting_is ts (at + 1) c.step.new.marks.items e in
    record {
      stack = e;
      behind = c.role_at-here.ensures ∙ behind_next ts at;
      shallow = λ k h. shallow_more ts at inv.shallow (omega (arith, n, c.len.ensures, c.step.new.marks.ok.0)) k h;
    }
