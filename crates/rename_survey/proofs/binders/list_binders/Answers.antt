use Rattle.std.proofs.Common.{◌≡◌, rules, ap, ◌∙◌, flat_map}
use Rattle.std.proofs.lemmas.List.{take_all}
use Rattle.std.proofs.lemmas.List.Sorted.{answers_always}
use Rattle.binding_model.specs.Facts.{in_order}
use Rattle.found_facts.proofs.Ordered.{sorted_so}
use Rattle.value_places.specs.Binders.{binder_places}
use Rattle.rename_survey.specs.declared.answer.Binder.{Binder}
use Rattle.rename_survey.specs.Listed.{binder_at}
use Rattle.rename_survey.proofs.binders.list_binders.Goals as goal

pub returns : goal.returns
returns c =
    let L = c.args.placed.now in
    let all : c.loop-place.list.items ≡ flat_map (binder_at L) (binder_places L) =
    c.loop-place.invariant ∙ ap (flat_map (binder_at L)) (take_all c.loop-place.place-index c.binders-place-items.result.now c.loop-place-test.false
    ∙ c.binders-place-items.ensures) in
    sorted_so (λ (b : Binder). b.at) _ _ (c.in_ok-sort_by_key.ensures.sorted (λ b. b.at) (answers_always _ _ _ (λ f a r g h. search rules)))
    (c.sort_by_key.ensures.stable (λ b. b.at) (answers_always _ _ _ (λ f a r g h. search rules)))
    ∙ ap (in_order (λ (b : Binder). b.at)) all
