use Rattle.std.proofs.Common.{◌≡◌, ◌<◌, List, All, map, ap, subst, sym, ◌∙◌, arith}
use Rattle.std.specs.Option.{option_copied}
use Rattle.std.proofs.lemmas.List.{length-map}
use Rattle.value_sites.specs.Sound.{AreDistinct}
use Rattle.ml_trees.specs.Tree.{UnitTree}
use Rattle.ml_trees.specs.View.{view_file, view_unit}
use Rattle.unit_order.specs.Order.{IsListed}
use Rattle.unit_order.specs.Positions.{unit_at, views}
use Rattle.project_reading.specs.Sources.{ReadAll}
use Rattle.project_reading.specs.Units.{units_of}
use Rattle.project_reading.proofs.Linked.{sorted_units, few_units, units_listed}
use Rattle.project_reading.proofs.Made.{positions_once, reads, sound}
use Rattle.project_reading.proofs.Reading.{as_many_trees}
use Rattle.project_reading.proofs.project.read_rest.Goals as goal

pub gather_units-requires : goal.gather_units-requires
gather_units-requires c =
    let trees = c.in-Ok.read.0.items in
    sym (length-map trees view_file) ∙ as_many_trees 0 c.entries-sources.result.now (map view_file trees) c.in-Ok.ensures.trees

pub link_order-requires-clause-count : goal.link_order-requires-clause-count
link_order-requires-clause-count c =
    let ts = map view_file c.in-Ok.read.0.items in
    let few = few_units c.deref.result.now c.entries-sources.result.now ts (ap views c.deref.ensures.value ∙ c.in_ok-units.ensures) in
    omega (arith, few, c.entries-sources.ensures.few)

pub link_order-requires-clause-sorted : goal.link_order-requires-clause-sorted
link_order-requires-clause-sorted c =
    let ts = map view_file c.in-Ok.read.0.items in
    sorted_units c.deref.result.now c.entries-sources.result.now ts (ap views c.deref.ensures.value ∙ c.in_ok-units.ensures)

pub link_order-requires-clause-listed : goal.link_order-requires-clause-listed
link_order-requires-clause-listed c =
    let fs = c.args.files.now in
    let ts = map view_file c.in-Ok.read.0.items in
    let us = views c.deref.result.now in
    let are : us ≡ units_of fs.entries ts =
    ap views c.deref.ensures.value ∙ c.in_ok-units.ensures ∙ ap (λ ss. units_of ss ts) c.entries-sources.ensures.entries
    in
    subst (λ m. IsListed us m) (sym c.manifest.ensures)
    (subst (λ vs. IsListed vs fs.manifest) (sym are) (units_listed fs ts c.entries-sources.ensures.project))

pub units_at-requires-clause-once : goal.units_at-requires-clause-once
units_at-requires-clause-once c =
    let fs = c.args.files.now in
    let ts = map view_file c.in-Ok.read.0.items in
    let us = views c.deref.result.now in
    let are : us ≡ units_of fs.entries ts =
    ap views c.deref.ensures.value ∙ c.in_ok-units.ensures ∙ ap (λ ss. units_of ss ts) c.entries-sources.ensures.entries
    in
    let read = subst (λ ss. ReadAll 0 ss ts) c.entries-sources.ensures.entries c.in-Ok.ensures.trees in
    let order = c.in-Ok-link_order.ensures in
    subst AreDistinct (sym c.deref-2.ensures.value)
    (positions_once fs ts us (option_copied c.manifest.result) c.entries-sources.ensures.project read are c.manifest.ensures
    c.in-Ok-link_order.positions.items order.taken order.order)

pub returns-clause-project : goal.returns-clause-project
returns-clause-project c =
    let fs = c.args.files.now in
    let ts = map view_file c.in-Ok.read.0.items in
    let us = views c.deref.result.now in
    let are : us ≡ units_of fs.entries ts =
    ap views c.deref.ensures.value ∙ c.in_ok-units.ensures ∙ ap (λ ss. units_of ss ts) c.entries-sources.ensures.entries
    in
    let read = subst (λ ss. ReadAll 0 ss ts) c.entries-sources.ensures.entries c.in-Ok.ensures.trees in
    let order = c.in-Ok-link_order.ensures in
    let ps = c.in-Ok-link_order.positions.items in
    let list : List UnitTree = views c.in_ok-units-2.units.items in
    let made : list ≡ map (unit_at us) ps =
    c.in_ok-units-2.ensures
    ∙ ap (λ vs. map (unit_at (views vs)) c.deref-2.result.now) (sym c.deref.ensures.value)
    ∙ ap (map (unit_at us)) c.deref-2.ensures.value
    in
    let inside = subst (λ n. All (λ p. p < n) ps) (sym (length-map c.deref.result.now view_unit)) order.inside in
    reads fs ts us (option_copied c.manifest.result) c.entries-sources.ensures.project read are c.manifest.ensures ps list
    order.taken order.order inside made

pub returns-clause-sound : goal.returns-clause-sound
returns-clause-sound c =
    let fs = c.args.files.now in
    let ts = map view_file c.in-Ok.read.0.items in
    let us = views c.deref.result.now in
    let are : us ≡ units_of fs.entries ts =
    ap views c.deref.ensures.value ∙ c.in_ok-units.ensures ∙ ap (λ ss. units_of ss ts) c.entries-sources.ensures.entries
    in
    let read = subst (λ ss. ReadAll 0 ss ts) c.entries-sources.ensures.entries c.in-Ok.ensures.trees in
    let order = c.in-Ok-link_order.ensures in
    let ps = c.in-Ok-link_order.positions.items in
    let list : List UnitTree = views c.in_ok-units-2.units.items in
    let made : list ≡ map (unit_at us) ps =
    c.in_ok-units-2.ensures
    ∙ ap (λ vs. map (unit_at (views vs)) c.deref-2.result.now) (sym c.deref.ensures.value)
    ∙ ap (map (unit_at us)) c.deref-2.ensures.value
    in
    let inside = subst (λ n. All (λ p. p < n) ps) (sym (length-map c.deref.result.now view_unit)) order.inside in
    sound fs ts us (option_copied c.manifest.result) c.entries-sources.ensures.project read are c.manifest.ensures ps list
    order.taken order.order inside made
