use Rattle.std.proofs.Common.{◌≡◌, List, ◌++◌, length, map, ap, ◌∙◌, subst, arith}
use Rattle.source_diff.specs.declared.pairs.LinePair.{LinePair}
use Rattle.source_diff.specs.Pairs.{Pair, view_pair}
use Rattle.source_diff.specs.Hunks.{Hunk, AreHunks, diff_names, diff_text}
use Rattle.source_diff.proofs.Texts.{completes_start, completes_on, completes_end, next_view, none_view, hunk_view}
use Rattle.source_diff.proofs.hunks.diff.Goals as goal

pub loop-run-init : goal.loop-run-init
loop-run-init c = (
  omega arith,
  completes_start (map view_pair c.in_ok-pairs.pairs.items) c.args.name.now c.push_names.new.text.items
      (c.in_ok-push_names.ensures ∙ ap (λ xs. xs ++ diff_names c.args.name.now) c.new-text.ensures.items),
)

pub loop-run-preserved : goal.loop-run-preserved
loop-run-preserved c =
    let pairs : List LinePair = c.in_ok-pairs.pairs.items in
    let found = c.in-Some.ensures.found in
    let next = next_view c.deref.result.now pairs c.loop-run.at c.in-Some.run' c.deref.ensures.value found in (
      omega (arith, found.within, ap length c.deref.ensures.value),
      completes_on (map view_pair pairs) c.args.name.now c.loop-run.text.items c.push_hunk.new.text.items c.loop-run.at c.in-Some.run' next
          c.loop-run.invariant.1
          (c.in_ok-push_hunk.ensures
          ∙ ap (λ xs. c.loop-run.text.items ++ xs) (hunk_view c.deref-in-Some.result.now pairs c.in-Some.run' c.deref-in-Some.ensures.value)),
    )

pub returns : goal.returns
returns c =
    let pairs : List LinePair = c.in_ok-pairs.pairs.items in
    let P : List Pair → Type 0 = λ ps. (hunks : List Hunk) × AreHunks ps hunks × (c.loop-run.text.items ≡ diff_text c.args.name.now hunks) in
    subst P c.in_ok-pairs.ensures
    (completes_end (map view_pair pairs) c.args.name.now c.loop-run.text.items c.loop-run.at
    (none_view c.deref.result.now pairs c.loop-run.at c.deref.ensures.value c.in_default.ensures.none) c.loop-run.invariant.1)
