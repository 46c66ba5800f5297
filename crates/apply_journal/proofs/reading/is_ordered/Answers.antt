use Rattle.std.specs.Ordering.{nat_cmp, is_lt}
use Rattle.std.specs.Cmp.Lexicographic.{slice_cmp}
use Rattle.std.proofs.Common.{rules, tests}
use Rattle.std.proofs.lemmas.List.Sorted.{answers_always}
use Rattle.apply_journal.proofs.Readings.{order_decided}
use Rattle.apply_journal.proofs.reading.is_ordered.Goals as goal

pub returns : goal.returns
returns c =
    order_decided c.args.files.now c.is_sorted_by.result
    (c.is_sorted_by.ensures.cases (λ x y. is_lt (slice_cmp nat_cmp x.name y.name)) (answers_always _ _ _ (λ f a r q k. search (rules, tests))))
