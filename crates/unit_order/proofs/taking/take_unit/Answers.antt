use Rattle.std.proofs.Common.{◌≡◌, ◌<◌, get_or, length, length-set, min, set, sym, ap, ◌∙◌, arith}
use Rattle.std.proofs.lemmas.List.{get_or-set_same}
use Rattle.unit_order.specs.Turns.{is_free}
use Rattle.unit_order.proofs.Cursor.{still_none, one_released}
use Rattle.unit_order.proofs.taking.take_unit.Goals.{then-is_free, else-is_free}
use Rattle.unit_order.proofs.taking.take_unit.Goals as goal

pub loop-user-preserved : goal.loop-user-preserved
loop-user-preserved c =
    let waiting = c.loop-user.waiting in
    let from = c.loop-user.from in
    let i = c.loop-user.user-index in
    let user = get_or c.args.users.now i 0 in
    let unit = c.wait_on-in-loop-user.result in
    let within : user < length waiting = omega (arith, c.requires.users i 0 c.loop-user-test.true, c.loop-user.invariant.size) in
    let size : length (set waiting user unit) ≡ length waiting = length-set waiting user unit in
    record {
      size = size ∙ c.loop-user.invariant.size;
      each = rw c.wait_on-in-loop-user.ensures
          (one_released c.args.waiting.now waiting c.args.users.now i c.args.at _ c.loop-user.invariant.size c.loop-user-test.true within
          c.loop-user.invariant.each);
      inside = elim c.if-is_free.branch [
        | then-is_free w ↦ omega (arith, w.from-is, w.min-from.ensures, size, c.loop-user.invariant.inside)
        | else-is_free w ↦ omega (arith, w.from-is, size, c.loop-user.invariant.inside)
      ];
      before = elim c.if-is_free.branch [
        | then-is_free w ↦ rw w.from-is
            (rw w.min-from.ensures (still_none waiting (min from user) user unit within
            (λ k d lt. c.loop-user.invariant.before k d (omega (arith, lt))) (λ lt. absurd (omega (arith, lt)))))
        | else-is_free w ↦ rw w.from-is
            (still_none waiting from user unit within c.loop-user.invariant.before
            (λ lt. ap is_free (sym (get_or-set_same waiting user unit _ within)) ∙ sym c.is_free.ensures ∙ w.if-is_free.false))
      ];
    }
