use Rattle.std.proofs.Common.{◌+◌, [], ◌∷◌, ◌++◌, cond, drop, ap, sym, ◌∙◌}
use Rattle.unit_order.specs.Needs.{positions_from}
use Rattle.unit_order.proofs.Table.{positions_more}
use Rattle.unit_order.proofs.need_lists.positions_in.Goals.{then-row-at+in_ok-push, else-row-at}
use Rattle.unit_order.proofs.need_lists.positions_in.Goals as goal

pub loop-at-preserved : goal.loop-at-preserved
loop-at-preserved c =
    let row = c.args.row.now in
    let at = c.loop-at.at in
    let list = c.loop-at.list.items in
    let rest = positions_from (at + 1) (drop (at + 1) row) in
    let more = positions_more row list (positions_from 0 row) at c.loop-at-test.true c.loop-at.invariant in
    elim c.if-row-at.branch [
      | then-row-at+in_ok-push w ↦
          ap (λ l. l.items ++ rest) w.list-is
          ∙ ap (λ l. l ++ rest) (w.in_ok-push.ensures.items ∙ ap (λ b. cond b (list ++ at ∷ []) list) (sym w.if-row-at.true)) ∙ more
      | else-row-at w ↦
          ap (λ l. l.items ++ rest) w.list-is ∙ ap (λ b. cond b (list ++ at ∷ []) list ++ rest) (sym w.if-row-at.false) ∙ more
    ]
