use Rattle.std.proofs.Common.{◌≡◌, ◌<◌, [], get_or, length, map, sym, subst, ◌∙◌, arith}
use Rattle.std.specs.Ordering.{nat_cmp}
use Rattle.std.specs.Cmp.Lexicographic.{slice_cmp}
use Rattle.std.proofs.lemmas.Map.Keys.{IsDistinct-from_sorted}
use Rattle.std.proofs.lemmas.Map.Made.{AllPairs-from_IsDistinct}
use Rattle.std.proofs.lemmas.List.{get_or-map, length-map, take_all}
use Rattle.unit_order.specs.Needs.{ArePositions}
use Rattle.unit_order.proofs.Taken.{eq_is_same}
use Rattle.unit_order.proofs.Positioned.{none_positioned, one_positioned}
use Rattle.unit_order.proofs.need_lists.unit_positions.Goals as goal

pub loop-at-init : goal.loop-at-init
loop-at-init c = none_positioned c.new-positions.result c.new-positions.ensures

pub loop-at-preserved : goal.loop-at-preserved
loop-at-preserved c =
    let units = c.args.units.now in
    let at = c.loop-at.at in
    let names = map (λ u. u.name) units in
    let lt : at < length units = omega (arith, c.loop-at-test.true) in
    let name : get_or names at [] ≡ c.as_bytes.result.now = get_or-map (λ u. u.name) units at c.index-units-at.result [] lt
    ∙ sym c.as_bytes.ensures in
    one_positioned c.loop-at.positions c.put.new.self names at c.as_bytes.result.now (omega (arith, lt, length-map units (λ u. u.name))) name
    (AllPairs-from_IsDistinct eq_is_same names (IsDistinct-from_sorted (slice_cmp nat_cmp) names c.requires.sorted)) c.in_ok-put.ensures.put
    c.loop-at.invariant

pub returns : goal.returns
returns c =
    let names = map (λ u. u.name) c.args.units.now in
    subst (ArePositions c.loop-at.positions)
    (take_all c.loop-at.at names (omega (arith, c.loop-at-test.false, length-map c.args.units.now (λ u. u.name))))
    c.loop-at.invariant
