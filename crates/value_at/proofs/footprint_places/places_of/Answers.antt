use Rattle.std.proofs.Common.{◌≡◌, ◌++◌, ◌∙◌, List, rules, ap, refl, map, drop, length, true, false}
use Rattle.std.proofs.lemmas.List.{take_rest}
use Rattle.std.proofs.lemmas.List.Sorted.{answers_always}
use Rattle.rotor_base.specs.declared.place.Place.{Place}
use Rattle.rotor_base.specs.declared.place.Ref.{Ref}
use Rattle.binding_model.specs.Facts.{in_order}
use Rattle.found_facts.proofs.Ordered.{sorted_so}
use Rattle.rename_model.specs.Foot.{hits}
use Rattle.value_at.specs.declared.footprint_places.ValuePlace.{ValuePlace}
use Rattle.value_at.specs.Places.{place_as}
use Rattle.value_at.proofs.Sorting.{listed_places}
use Rattle.value_at.proofs.footprint_places.places_of.Goals as goal

pub returns : goal.returns
returns c =
    let foot = c.args.foot.now in
    let refs = c.args.facts.now.refs in
    let decls = c.as_slice-declarations.result.now in
    let all = c.deref.result.now in
    let hit : all ≡ hits refs foot = c.deref.ensures.value ∙ c.in_ok-hits.ensures ∙ ap (λ (rs : List Ref). hits rs foot) c.as_slice.ensures in
    let rest : List ValuePlace = map (place_as false) (drop (length decls) all) in
    let made : c.add_places-2.new.list.items ≡ map (place_as true) decls ++ rest
    = c.in_ok-add_places-2.ensures
    ∙ ap (λ (ps : List Place). c.add_places.new.list.items ++ map (place_as false) ps) (take_rest all (length decls))
    ∙ ap (λ (l : List ValuePlace). l ++ rest)
    (c.in_ok-add_places.ensures ∙ ap (λ (l : List ValuePlace). l ++ map (place_as true) decls) c.new-list.ensures.items) in
    sorted_so (λ (q : ValuePlace). q.at) _ _ (c.in_ok-sort_by_key.ensures.sorted (λ q. q.at) (answers_always _ _ _ (λ f a r g h. search rules)))
    (c.sort_by_key.ensures.stable (λ q. q.at) (answers_always _ _ _ (λ f a r g h. search rules)))
    ∙ ap (in_order (λ (q : ValuePlace). q.at))
    (made
    ∙ ap (λ (ds : List Place). map (place_as true) ds ++ map (place_as false) (drop (length ds) all)) c.as_slice-declarations.ensures
    ∙ listed_places refs foot all (length foot.decls) hit refl)
