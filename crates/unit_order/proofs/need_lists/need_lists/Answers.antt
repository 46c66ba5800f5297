use Rattle.std.proofs.Common.{◌≡◌, ℕ, ◌+◌, ◌<◌, List, [], ◌∷◌, ◌++◌, length, get_or, take, map, ap, refl, sym, ◌∙◌, arith}
use Rattle.std.proofs.lemmas.List.{map-append, map_more, take_all}
use Rattle.ml_trees.specs.View.{view_unit}
use Rattle.unit_order.specs.Order.{needs_unit}
use Rattle.unit_order.specs.Needs.{positions_from}
use Rattle.unit_order.proofs.Table.{table_of, map_through}
use Rattle.unit_order.proofs.need_lists.need_lists.Goals as goal

lists_more : {A R B : Type 0} (out : R → B) (f : A → B) (xs : List A) (i : ℕ) (x : A) (lists : List R) (r : R) → i < length xs → x ≡ get_or xs i x
    → map out lists ≡ map f (take i xs) → out r ≡ f x → map out (lists ++ r ∷ []) ≡ map f (take (i + 1) xs)
lists_more out f xs i x lists r lt is before list =
    map-append out lists (r ∷ []) ∙ ap (λ l. l ++ out r ∷ []) before ∙ ap (λ y. map f (take i xs) ++ y ∷ []) (list ∙ ap f is)
    ∙ sym (map_more f xs i x lt)

pub loop-unit-preserved : goal.loop-unit-preserved
loop-unit-preserved c =
    ap (map (λ list. list.items)) c.in_ok-push.ensures.items
    ∙ lists_more (λ list. list.items) _ c.args.units.now c.loop-unit.unit-index c.unit-item.result c.loop-unit.lists.items
    c.in_ok-positions_in.field-0
    (omega (arith, c.loop-unit-test.true)) c.unit-item.is c.loop-unit.invariant
    (c.in_ok-positions_in.ensures ∙ ap (positions_from 0) (c.deref.ensures.value ∙ c.in_ok-row.ensures))

pub returns : goal.returns
returns c =
    let units = c.args.units.now in
    c.loop-unit.invariant
    ∙ ap (map (λ u. positions_from 0 (map (λ v. needs_unit (view_unit u) v.name) units)))
    (take_all c.loop-unit.unit-index units (omega (arith, c.loop-unit-test.false)))
    ∙ sym (map_through (positions_from 0) (λ u. map (λ v. needs_unit (view_unit u) v.name) units)
    (λ u. positions_from 0 (map (λ v. needs_unit (view_unit u) v.name) units)) (λ u. refl) units)
    ∙ ap (map (positions_from 0)) (table_of units)
