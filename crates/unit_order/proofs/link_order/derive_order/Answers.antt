use Rattle.std.proofs.Common.{◌≡◌, ◌<◌, ℕ, Vec, Global, length, map, refl, sym, subst, ap, ◌∙◌, arith}
use Rattle.std.proofs.lemmas.Bool.{ne_eqb}
use Rattle.std.proofs.lemmas.List.{length-map}
use Rattle.ml_trees.specs.View.{view_unit}
use Rattle.unit_order.specs.Positions.{views, names_at, unit_at}
use Rattle.unit_order.specs.Order.{derived_order}
use Rattle.unit_order.specs.Needs.{AreNeeds}
use Rattle.unit_order.proofs.Stuck.{stuck_at, never_stuck}
use Rattle.unit_order.proofs.Named.{name_of}
use Rattle.unit_order.proofs.Table.{table_needs}
use Rattle.unit_order.proofs.link_order.derive_order.Goals as goal

pub first_on_cycle-requires : goal.first_on_cycle-requires
first_on_cycle-requires c =
    let us = views c.args.units.now in
    let out = λ (list : Vec ℕ Global). list.items in
    subst (AreNeeds us) (sym (ap (map out) c.deref-2.ensures.value ∙ c.in_ok-needs.ensures)) (table_needs us)

pub returns-in-Some-clause-refused : goal.returns-in-Some-clause-refused
returns-in-Some-clause-refused c =
    let us = views c.args.units.now in
    let many : length (derived_order us) ≡ length c.in_ok-taken.taken.items = ap length (sym c.in_ok-taken.ensures.order)
    ∙ length-map c.in_ok-taken.taken.items (λ at. (unit_at us at).name) in
    let lt : c.in-Some.at < length c.args.units.now = rw c.in-Some.is at c.in_ok-at.ensures.inside in (
      refl,
      ne_eqb (length (derived_order us)) (length us) (λ e. omega (arith, e, many, c.if-len-units.false, length-map c.args.units.now view_unit)),
      stuck_at us c.in-Some.at c.in_ok-new-in-Some.field-0 (omega (arith, lt, length-map c.args.units.now view_unit))
          (c.in_ok-new-in-Some.ensures ∙ c.as_bytes.ensures ∙ name_of c.args.units.now c.in-Some.at c.index-units-at.result lt)
          (rw c.in-Some.is at c.in_ok-at.ensures.found) (rw c.in-Some.is at c.in_ok-at.ensures.first),
    )

pub returns-clause-taken : goal.returns-clause-taken
returns-clause-taken c =
    let us = views c.args.units.now in
    let lt : length c.in_ok-taken.taken.items < length c.args.units.now = omega (arith, c.if-len-units.false, c.in_ok-taken.ensures.left) in
    absurd (never_stuck us (names_at us c.in_ok-taken.taken.items) (c.in_ok-taken.ensures.stopped lt) (omega (arith, lt, c.in_ok-taken.ensures.left))
    (rw c.in-None.is at c.in_ok-at.ensures.none))
