use Rattle.std.proofs.Common.{ap, sym, ◌∙◌}
use Rattle.rename_parts.proofs.References.{place_more, place_same}
use Rattle.rename_parts.proofs.members.hit_places.Goals as goal
use Rattle.rename_parts.proofs.members.hit_places.Goals.{then-is_among+in_ok-push, else-is_among}

pub loop-reference-preserved : goal.loop-reference-preserved
loop-reference-preserved c =
    let foot = c.args.foot.now in
    let is = sym (c.is_among.ensures foot.decls c.requires) in
    elim c.if-is_among.branch [
      | then-is_among+in_ok-push w ↦ ap (λ v. v.items) w.list-is
          ∙ place_more foot c.args.refs.now c.loop-reference.reference-index _ c.loop-reference.list.items _ c.loop-reference-test.true
          (is ∙ w.if-is_among.true) c.loop-reference.invariant w.in_ok-push.ensures.items
      | else-is_among w ↦ ap (λ v. v.items) w.list-is ∙ c.loop-reference.invariant
          ∙ place_same foot c.args.refs.now c.loop-reference.reference-index _ c.loop-reference-test.true (is ∙ w.if-is_among.false)
    ]
