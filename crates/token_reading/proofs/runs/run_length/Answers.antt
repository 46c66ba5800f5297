use Rattle.std.proofs.Common.{◌≡◌, ◌+◌, ◌-◌, List, reverse, Some, sym, ap, ◌∙◌, arith}
use Rattle.ml_trees.specs.declared.fixed.Fixed.{Fixed}
use Rattle.token_reading.specs.Pieces.{longest}
use Rattle.token_reading.specs.RunRows.{is_inside, is_beside, is_first, first_after, run_length, count_after}
use Rattle.token_reading.specs.Tokens.{from}
use Rattle.token_reading.proofs.Places.{from_end, from_next}
use Rattle.token_reading.proofs.RunTurns.{or_later, run_ends, run_stops, run_goes_on, run_begins, run_begins_not, count_at_once, count_least}
use Rattle.token_reading.proofs.RunTurns.{steps_on, steps_off}
use Rattle.token_reading.proofs.runs.run_length.Goals as goal

pub returns-then-at-len-clause-value : goal.returns-then-at-len-clause-value
returns-then-at-len-clause-value c =
    ap (run_length c.args.run) (from_end c.args.tokens.now c.args.at (omega (arith, c.if-at-len.true, c.len.ensures)))

pub returns-then-not-branch-clause-value : goal.returns-then-not-branch-clause-value
returns-then-not-branch-clause-value c =
    let here = from c.args.tokens.now c.args.at in
    let e = steps_off c.in_ok-step.field-0 _ _ c.in_ok-step.ensures c.if-not-branch.true in
    run_begins_not c.args.run here
    (sym (ap (λ (xs : List Fixed). first_after (is_first c.args.run) (is_inside c.args.run) here (reverse xs)) c.new-unclosed.ensures.items) ∙ e)

pub loop-next-init : goal.loop-next-init
loop-next-init c =
    let here = from c.args.tokens.now c.args.at in
    let ys = reverse c.step.new.unclosed.items in
    let x = from_next c.args.tokens.now c.args.at (omega arith) in
    let e = sym (ap (λ (xs : List Fixed). first_after (is_first c.args.run) (is_inside c.args.run) here (reverse xs)) c.new-unclosed.ensures.items)
    ∙ steps_on c.in_ok-step.field-0 _ _ c.in_ok-step.ensures c.if-not-branch.false in
    let one : c.args.at + 1 - c.args.at ≡ 1 = omega arith in
    let count = c.closed_count-count.ensures ∙ ap (λ xs. count_after (reverse xs) 1 0) c.deref.ensures.value in
    record {
      after = omega arith;
      later = rw (one, count) (run_begins c.args.run x.0 (from c.args.tokens.now (c.args.at + 1)) here ys x.1 e);
      at_once = λ h. count ∙ count_at_once ys 1 0 h ∙ sym one;
      within = omega (arith, count, count_least ys 1 0 1 (omega arith) (omega arith));
    }

pub returns-then-not-branch-2-clause-value : goal.returns-then-not-branch-2-clause-value
returns-then-not-branch-2-clause-value c =
    let inv = c.loop-next.invariant in
    let here = from c.args.tokens.now c.loop-next.next in
    let e = steps_off c.in_ok-step-2.field-0 _ _ c.in_ok-step-2.ensures c.if-not-branch-2.true in
    let q = run_stops (is_beside c.args.run) (is_inside c.args.run) (reverse c.loop-next.unclosed.items) c.loop-next.count
    (c.loop-next.next - c.args.at) here (run_length c.args.run (from c.args.tokens.now c.args.at)) e
    (omega (arith, inv.after)) inv.at_once inv.later in
    rw (sym q) c.refuse_empty.ensures

pub loop-next-preserved : goal.loop-next-preserved
loop-next-preserved c =
    let inv = c.loop-next.invariant in
    let next = c.loop-next.next in
    let here = from c.args.tokens.now next in
    let xs = reverse c.loop-next.unclosed.items in
    let ys = reverse c.step-in-loop-next.new.unclosed.items in
    let x = from_next c.args.tokens.now next (omega arith) in
    let e = sym (ap (λ h. first_after (is_beside c.args.run) (is_inside c.args.run) h xs) x.1)
    ∙ steps_on c.in_ok-step-2.field-0 _ _ c.in_ok-step-2.ensures c.if-not-branch-2.false in
    let done : next + 1 - c.args.at ≡ next - c.args.at + 1 = omega (arith, inv.after) in
    let count = c.closed_count-count-in-loop-next.ensures
    ∙ ap (λ xs. count_after (reverse xs) (next - c.args.at + 1) c.loop-next.count) c.deref-in-loop-next.ensures.value in
    let later = sym (ap (λ h. or_later c.loop-next.count (next - c.args.at) (longest (is_beside c.args.run) (is_inside c.args.run) (Some xs) h)) x.1)
    ∙ inv.later in
    record {
      after = omega (arith, inv.after);
      later = rw (done, count)
          (run_goes_on (is_beside c.args.run) (is_inside c.args.run) xs ys c.loop-next.count (next - c.args.at) x.0
          (from c.args.tokens.now (next + 1)) (run_length c.args.run (from c.args.tokens.now c.args.at)) e
          (omega (arith, inv.after)) inv.at_once later);
      at_once = λ h. count ∙ count_at_once ys (next - c.args.at + 1) c.loop-next.count h ∙ sym done;
      within = omega (
        arith,
        count,
        inv.after,
        inv.within,
        count_least ys (next - c.args.at + 1) c.loop-next.count (next + 1 - c.args.at)
            (omega (arith, inv.after)) (omega (arith, inv.within)),
      );
    }

pub returns-clause-value : goal.returns-clause-value
returns-clause-value c =
    let inv = c.loop-next.invariant in
    let here = from c.args.tokens.now c.loop-next.next in
    let q = run_ends (is_beside c.args.run) (is_inside c.args.run) (reverse c.loop-next.unclosed.items) c.loop-next.count
    (c.loop-next.next - c.args.at) here (run_length c.args.run (from c.args.tokens.now c.args.at))
    (from_end c.args.tokens.now c.loop-next.next (omega (arith, c.loop-next-test.false))) (omega (arith, inv.after)) inv.at_once inv.later in
    rw (sym q) c.refuse_empty-2.ensures
