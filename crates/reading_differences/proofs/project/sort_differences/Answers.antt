use Rattle.std.proofs.Common.{rules, ◌∙◌}
use Rattle.std.proofs.lemmas.List.Sorted.{answers_always}
use Rattle.found_facts.proofs.Ordered.{sorted_so}
use Rattle.reading_differences.proofs.project.sort_differences.Goals as goal

pub returns : goal.returns
returns c =
    c.from_vec.ensures
    ∙ sorted_so (λ x. x.at) _ _ (c.in_ok-sort_by_key.ensures.sorted (λ x. x.at) (answers_always _ _ _ (λ f a r g h. search rules)))
    (c.sort_by_key.ensures.stable (λ x. x.at) (answers_always _ _ _ (λ f a r g h. search rules)))
