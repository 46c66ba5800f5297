use Rattle.std.proofs.Common.{◌≡◌, ◌+◌, ◌++◌, ◌∷◌, [], drop, slice_index_or, slice_set, None, ap, subst, sym, ◌∙◌, arith}
use Rattle.std.proofs.lemmas.List.{drop_more}
use Rattle.project_reading.proofs.TakingOut.{TakesOut, one_taken, none_taken}
use Rattle.project_reading.proofs.order.units_at.Goals as goal
use Rattle.project_reading.proofs.order.units_at.Goals.{in-Some-take+in_ok-push-2, in_default}

pub loop-at-preserved : goal.loop-at-preserved
loop-at-preserved c =
    let ps = c.args.positions.now in
    let i = c.loop-at.at-index in
    let p = slice_index_or ps i 0 in
    let ahead : drop i ps ≡ p ∷ drop (i + 1) ps = drop_more ps i 0 (omega arith) in
    let h = subst (λ qs. TakesOut c.args.units.items ps qs c.loop-at.left.items c.loop-at.list.items) ahead c.loop-at.invariant in
    let us = c.args.units.items in
    let rest = drop (i + 1) ps in
    let left = c.loop-at.left.items in
    elim c.match-take.branch [
      | in-Some-take+in_ok-push-2 w ↦
          let list : c.match-take.list.items ≡ c.loop-at.list.items ++ w.in-Some-take.unit ∷ [] = ap (λ v. v.items) w.list-is
          ∙ w.in_ok-push-2.ensures.items in
          subst (λ x. TakesOut us ps rest (slice_set left p x) c.match-take.list.items) (sym c.take.ensures.after)
          (subst (λ l. TakesOut us ps rest (slice_set left p None) l) (sym list)
          (one_taken us ps rest p left c.index_mut.result.now c.loop-at.list.items w.in-Some-take.unit h c.index_mut.ensures.value
          (sym c.take.ensures.value ∙ w.in-Some-take.is)))
      | in_default w ↦ absurd (none_taken us ps rest p left c.index_mut.result.now c.loop-at.list.items h c.index_mut.ensures.value
          (sym c.take.ensures.value ∙ w.in_default.is))
    ]
