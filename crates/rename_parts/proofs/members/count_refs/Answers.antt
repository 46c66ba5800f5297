use Rattle.std.proofs.Common.{◌+◌, ap, sym, ◌∙◌, arith}
use Rattle.rename_parts.proofs.References.{count_more, count_same}
use Rattle.rename_parts.proofs.members.count_refs.Goals as goal
use Rattle.rename_parts.proofs.members.count_refs.Goals.{then-is_among, else-is_among}

pub loop-reference-preserved : goal.loop-reference-preserved
loop-reference-preserved c =
    elim c.if-is_among.branch [
      | then-is_among w ↦ record {
        count = λ foot has. w.count-is ∙ ap (λ n. n + 1) (c.loop-reference.invariant.count foot has)
            ∙ count_more foot c.args.refs.now c.loop-reference.reference-index _ c.loop-reference-test.true
            (sym (c.is_among.ensures foot.decls has) ∙ w.if-is_among.true);
        few = omega (arith, w.count-is, c.loop-reference.invariant.few);
      }
      | else-is_among w ↦ record {
        count = λ foot has. w.count-is ∙ c.loop-reference.invariant.count foot has
            ∙ count_same foot c.args.refs.now c.loop-reference.reference-index _ c.loop-reference-test.true
            (sym (c.is_among.ensures foot.decls has) ∙ w.if-is_among.false);
        few = omega (arith, w.count-is, c.loop-reference.invariant.few);
      }
    ]
