use Rattle.std.proofs.Common.{◌≡◌, ◌+◌, sym, ap, ◌∙◌, List, ◌∷◌, drop, map, Some, None, refl}
use Rattle.std.proofs.lemmas.List.{drop_more, drop_all}
use Rattle.ml_trees.specs.declared.module.UnitTree.{UnitTree}
use Rattle.ml_trees.specs.View.{view_unit, view_project}
use Rattle.binding_model.specs.Renaming.{places, file_places}
use Rattle.rename_parts.specs.Binders.{mark_at}
use Rattle.rename_parts.proofs.Marks.{unit_mark, mark_is}
use Rattle.rename_parts.proofs.binders.binder_at.Goals as goal

pub returns-in-Some : goal.returns-in-Some
returns-in-Some c =
    let us = c.deref-unit-items.result.now in
    let u = c.unit-item.result in
    let rest = drop (c.loop-unit.unit-index + 1) us in
    let more = drop_more us c.loop-unit.unit-index u c.loop-unit-test.true ∙ ap (λ (x : UnitTree). x ∷ rest) (sym c.unit-item.is) in
    let seen : mark_at (places (map view_unit (u ∷ rest))) c.args.place ≡ mark_at (places (map view_unit us)) c.args.place =
    sym (ap (λ (l : List UnitTree). mark_at (places (map view_unit l)) c.args.place) more) ∙ c.loop-unit.invariant in
    let here : Some c.in-Some.found ≡ mark_at (file_places (view_unit u).body) c.args.place = sym c.in-Some.is ∙ c.in_ok-found.ensures in
    let found : Some c.in-Some.found ≡ mark_at (places (map view_unit us)) c.args.place =
    unit_mark (view_unit u) (map view_unit rest) c.args.place (Some c.in-Some.found) _ _ here refl seen in
    mark_is (view_project c.args.project.now) c.requires c.args.place (Some c.in-Some.found)
    (found ∙ ap (λ (l : List UnitTree). mark_at (places (map view_unit l)) c.args.place) c.deref-unit-items.ensures.value)

pub returns-in-Some-2 : goal.returns-in-Some-2
returns-in-Some-2 c =
    let us = c.deref-unit-items.result.now in
    let u = c.unit-item.result in
    let rest = drop (c.loop-unit.unit-index + 1) us in
    let more = drop_more us c.loop-unit.unit-index u c.loop-unit-test.true ∙ ap (λ (x : UnitTree). x ∷ rest) (sym c.unit-item.is) in
    let seen : mark_at (places (map view_unit (u ∷ rest))) c.args.place ≡ mark_at (places (map view_unit us)) c.args.place =
    sym (ap (λ (l : List UnitTree). mark_at (places (map view_unit l)) c.args.place) more) ∙ c.loop-unit.invariant in
    let none : None ≡ mark_at (file_places (view_unit u).body) c.args.place = sym c.in_default.is ∙ c.in_ok-found.ensures in
    let here : Some c.in-Some-2.found ≡ mark_at (file_places (view_unit u).face) c.args.place = sym c.in-Some-2.is ∙ c.in_ok-found-2.ensures in
    let found : Some c.in-Some-2.found ≡ mark_at (places (map view_unit us)) c.args.place =
    unit_mark (view_unit u) (map view_unit rest) c.args.place None (Some c.in-Some-2.found) _ none here seen in
    mark_is (view_project c.args.project.now) c.requires c.args.place (Some c.in-Some-2.found)
    (found ∙ ap (λ (l : List UnitTree). mark_at (places (map view_unit l)) c.args.place) c.deref-unit-items.ensures.value)

pub loop-unit-preserved : goal.loop-unit-preserved
loop-unit-preserved c =
    let us = c.deref-unit-items.result.now in
    let u = c.unit-item.result in
    let rest = drop (c.loop-unit.unit-index + 1) us in
    let more = drop_more us c.loop-unit.unit-index u c.loop-unit-test.true ∙ ap (λ (x : UnitTree). x ∷ rest) (sym c.unit-item.is) in
    let seen : mark_at (places (map view_unit (u ∷ rest))) c.args.place ≡ mark_at (places (map view_unit us)) c.args.place =
    sym (ap (λ (l : List UnitTree). mark_at (places (map view_unit l)) c.args.place) more) ∙ c.loop-unit.invariant in
    let none : None ≡ mark_at (file_places (view_unit u).body) c.args.place = sym c.in_default.is ∙ c.in_ok-found.ensures in
    let more_none : None ≡ mark_at (file_places (view_unit u).face) c.args.place = sym c.in_default-2.is ∙ c.in_ok-found-2.ensures in
    unit_mark (view_unit u) (map view_unit rest) c.args.place None None _ none more_none seen

pub returns : goal.returns
returns c =
    let us = c.deref-unit-items.result.now in
    let none : None ≡ mark_at (places (map view_unit us)) c.args.place =
    sym (ap (λ (l : List UnitTree). mark_at (places (map view_unit l)) c.args.place) (drop_all c.loop-unit.unit-index us c.loop-unit-test.false))
    ∙ c.loop-unit.invariant in
    mark_is (view_project c.args.project.now) c.requires c.args.place None
    (none ∙ ap (λ (l : List UnitTree). mark_at (places (map view_unit l)) c.args.place) c.deref-unit-items.ensures.value)
