use Rattle.std.proofs.Common.{ℕ, ◌+◌, List, ◌++◌, map, ap, sym, ◌∙◌, arith}
use Rattle.std.specs.Prelude.{slice_range}
use Rattle.source_diff.specs.declared.pairs.LinePair.{LinePair}
use Rattle.source_diff.specs.Pairs.{view_pair}
use Rattle.source_diff.specs.Hunks.{added, lines_text}
use Rattle.source_diff.proofs.Texts.{left_changed, left_kept, left_end, left_text, kept_step, changed_step}
use Rattle.source_diff.proofs.hunks.push_lines.Goals as goal
use Rattle.source_diff.proofs.hunks.push_lines.Goals.{then-is_changed+in_ok-push_line, else-is_changed+in_ok-push_added+in_ok-push_line-2}

pub loop-at-preserved : goal.loop-at-preserved
loop-at-preserved c =
    let pairs : List LinePair = c.args.pairs.now in
    let from : ℕ = c.loop-at.from in
    let at : ℕ = c.loop-at.at in
    let text : List ℕ = c.loop-at.text.items in
    let waits : List ℕ = lines_text (added (map view_pair (slice_range pairs from at))) in
    elim c.if-is_changed.branch [
      | then-is_changed+in_ok-push_line w ↦ rw (w.text-is, w.from-is) (
        omega (arith, c.loop-at.invariant.0),
        changed_step text w.push_line.new.text.items _ (left_text pairs from (at + 1)) _ w.in_ok-push_line.ensures
            (ap (λ xs. text ++ xs)
            (sym (left_changed pairs from at _ c.loop-at.invariant.0 c.loop-at-test.true (sym c.is_changed.ensures ∙ w.if-is_changed.true)))
            ∙ c.loop-at.invariant.1),
      )
      | else-is_changed+in_ok-push_added+in_ok-push_line-2 w ↦ rw (w.text-is, w.from-is) (
        omega arith,
        kept_step text w.push_added.new.text.items w.push_line-else-is_changed.new.text.items waits _ (left_text pairs (at + 1) (at + 1)) _
            w.in_ok-push_added.ensures w.in_ok-push_line-2.ensures
            (ap (λ xs. text ++ xs)
            (sym (left_kept pairs from at _ c.loop-at.invariant.0 c.loop-at-test.true (sym c.is_changed.ensures ∙ w.if-is_changed.false)))
            ∙ c.loop-at.invariant.1),
      )
    ]

pub returns : goal.returns
returns c =
    let left = left_end c.args.pairs.now c.loop-at.from c.loop-at.at c.loop-at-test.false c.loop-at.auto.at-end in
    c.in_ok-push_added-2.ensures ∙ ap (λ xs. c.loop-at.text.items ++ xs) (sym left) ∙ c.loop-at.invariant.1
