use Rattle.std.proofs.Common.{◌+◌, [], ◌∷◌, sym, ap, ◌∙◌, subst, List, drop, map}
use Rattle.std.proofs.lemmas.List.{drop_more, drop_all}
use Rattle.rotor_base.specs.declared.place.Place.{Place}
use Rattle.ml_trees.specs.declared.module.UnitTree.{UnitTree}
use Rattle.ml_trees.specs.View.{view_unit, view_project}
use Rattle.value_places.specs.Placed.{Files}
use Rattle.value_places.proofs.Units.{Leaves, leaves_all, leaves_more, leaves_none}
use Rattle.value_places.proofs.placed.file_project.Goals as goal

pub loop-unit-init : goal.loop-unit-init
loop-unit-init c =
    let us = view_project c.args.project.now in
    let F : Files → Type 0 = λ fs. Leaves us (map view_unit c.deref-unit-items.result.now) fs c.new-2.result.items in
    let B : List Place → Type 0 = λ bs. Leaves us (map view_unit c.deref-unit-items.result.now) [] bs in
    let U : List UnitTree → Type 0 = λ vs. Leaves us (map view_unit vs) [] [] in
    subst F (sym c.new.ensures.items)
    (subst B (sym c.new-2.ensures.items) (subst U (sym c.deref-unit-items.ensures.value) (leaves_all us c.requires)))

pub loop-unit-preserved : goal.loop-unit-preserved
loop-unit-preserved c =
    let us = view_project c.args.project.now in
    let behind = drop (c.loop-unit.unit-index + 1) c.deref-unit-items.result.now in
    let more = drop_more c.deref-unit-items.result.now c.loop-unit.unit-index c.unit-item.result c.loop-unit-test.true
    ∙ ap (λ (u : UnitTree). u ∷ behind) (sym c.unit-item.is) in
    let L : List UnitTree → Type 0 = λ vs. Leaves us (map view_unit vs) c.loop-unit.filed.files.items c.loop-unit.filed.binders.items in
    leaves_more us (view_unit c.unit-item.result) (map view_unit behind) c.loop-unit.filed.files.items c.add_part.new.filed.files.items
    c.add_part-in-loop-unit.new.filed.files.items c.loop-unit.filed.binders.items c.add_part.new.filed.binders.items
    c.add_part-in-loop-unit.new.filed.binders.items
    c.in_ok-add_part.ensures.files c.in_ok-add_part-2.ensures.files c.in_ok-add_part.ensures.binders c.in_ok-add_part-2.ensures.binders
    (subst L more c.loop-unit.invariant)

pub returns-clause-places : goal.returns-clause-places
returns-clause-places c =
    let us = view_project c.args.project.now in
    let L : List UnitTree → Type 0 = λ vs. Leaves us (map view_unit vs) c.loop-unit.filed.files.items c.loop-unit.filed.binders.items in
    (leaves_none us c.loop-unit.filed.files.items c.loop-unit.filed.binders.items
    (subst L (drop_all c.loop-unit.unit-index c.deref-unit-items.result.now c.loop-unit-test.false) c.loop-unit.invariant)).0

pub returns-clause-binders : goal.returns-clause-binders
returns-clause-binders c =
    let us = view_project c.args.project.now in
    let L : List UnitTree → Type 0 = λ vs. Leaves us (map view_unit vs) c.loop-unit.filed.files.items c.loop-unit.filed.binders.items in
    (leaves_none us c.loop-unit.filed.files.items c.loop-unit.filed.binders.items
    (subst L (drop_all c.loop-unit.unit-index c.deref-unit-items.result.now c.loop-unit-test.false) c.loop-unit.invariant)).1
