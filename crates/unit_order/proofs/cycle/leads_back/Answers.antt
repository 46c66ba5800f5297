use Rattle.std.proofs.Common.{ℕ, ◌<◌, [], false, ◌≡◌, length, map, get_or, refl, sym, subst, ap, ◌∙◌, arith, Vec, Global}
use Rattle.std.proofs.lemmas.List.{take_all, length-map, get_or_default}
use Rattle.std.proofs.lemmas.Grind.{common_steps}
use Rattle.unit_order.specs.Positions.{views}
use Rattle.ml_trees.specs.View.{view_unit}
use Rattle.unit_order.proofs.Spread.{AreMarked, list_is, next_inside, spread_step, marks_step, spread_next, spread_end, still_at, no_cycle}
use Rattle.unit_order.proofs.cycle.leads_back.Goals as goal

pub mark-requires : goal.mark-requires
mark-requires c =
    let us = views c.args.units.now in
    let out = λ (list : Vec ℕ Global). list.items in
    let at = c.index-at.result.now in
    let s = c.loop-next.invariant.spread in
    let inside : at < length us =
    subst (λ p. p < length us) (sym c.loop-next.invariant.at) (s.inside c.loop-done.done 0 c.loop-next.invariant.within) in
    let is = list_is out c.args.needs.now at c.index-needs-at.result c.deref-next-items.result.now
    (omega (arith, inside, c.requires.needs.size, length-map c.args.needs.now out)) c.index-needs-at.is c.deref-next-items.ensures.value in
    let next = next_inside us (map out c.args.needs.now) at c.loop-next.next-index c.deref-next-items.result.now c.requires.needs inside is
    (omega (arith, c.loop-next-test.true)) in
    omega (arith, next, s.size)

pub loop-next-preserved : goal.loop-next-preserved
loop-next-preserved c =
    let us = views c.args.units.now in
    let out = λ (list : Vec ℕ Global). list.items in
    let at = c.index-at.result.now in
    let xs = c.deref-next-items.result.now in
    let k = c.loop-next.next-index in
    let queue = c.loop-next.queue.items in
    let marked = c.loop-next.marked.items in
    let s = c.loop-next.invariant.spread in
    let within : k < length xs = omega (arith, c.loop-next-test.true) in
    let inside : at < length us =
    subst (λ p. p < length us) (sym c.loop-next.invariant.at) (s.inside c.loop-done.done 0 c.loop-next.invariant.within) in
    let is = list_is out c.args.needs.now at c.index-needs-at.result xs
    (omega (arith, inside, c.requires.needs.size, length-map c.args.needs.now out)) c.index-needs-at.is c.deref-next-items.ensures.value in
    let next = next_inside us (map out c.args.needs.now) at k xs c.requires.needs inside is within in
    let stays = still_at queue (get_or marked (get_or xs k 0) false) (get_or xs k 0) c.loop-done.done c.loop-next.invariant.within in
    record {
      spread = rw (c.in_ok-mark.ensures.marks, c.in_ok-mark.ensures.queue)
          (spread_step us (map out c.args.needs.now) c.args.start marked queue c.loop-done.done at k xs c.requires.needs s
          c.loop-next.invariant.within c.loop-next.invariant.at is within);
      within = rw c.in_ok-mark.ensures.queue stays.0;
      at = c.loop-next.invariant.at ∙ sym (ap (λ q. get_or q c.loop-done.done 0) c.in_ok-mark.ensures.queue ∙ stays.1);
      marks = rw c.in_ok-mark.ensures.marks (marks_step marked xs k within (omega (arith, next, s.size)) c.loop-next.invariant.marks);
    }

pub loop-done-preserved : goal.loop-done-preserved
loop-done-preserved c =
    let us = views c.args.units.now in
    let out = λ (list : Vec ℕ Global). list.items in
    let at = c.index-at.result.now in
    let s = c.loop-next.invariant.spread in
    let inside : at < length us =
    subst (λ p. p < length us) (sym c.loop-next.invariant.at) (s.inside c.loop-done.done 0 c.loop-next.invariant.within) in
    let is = list_is out c.args.needs.now at c.index-needs-at.result c.deref-next-items.result.now
    (omega (arith, c.requires.needs.size, length-map c.args.needs.now out)) c.index-needs-at.is c.deref-next-items.ensures.value in
    let all = subst (AreMarked c.loop-next.marked.items)
    (take_all c.loop-next.next-index c.deref-next-items.result.now (omega (arith, c.loop-next-test.false)) ∙ is
    ∙ ap (λ p. get_or (map out c.args.needs.now) p []) c.loop-next.invariant.at) c.loop-next.invariant.marks in
    record {
      spread = spread_next us (map out c.args.needs.now) c.args.start c.loop-next.marked.items c.loop-next.queue.items c.loop-done.done s
          c.loop-next.invariant.within all;
      within = omega (arith, c.loop-next.invariant.within);
    }

pub returns-clause-no : goal.returns-clause-no
returns-clause-no c =
    let us = views c.args.units.now in
    let out = λ (list : Vec ℕ Global). list.items in
    let s = c.loop-done.invariant.spread in
    let lt : c.args.start < length us = omega (arith, c.requires.inside, length-map c.args.units.now view_unit) in
    λ chain. c.index.ensures ∙ get_or_default c.loop-done.marked.items c.args.start c.index.result.now false (omega (arith, lt, s.size))
    ∙ spread_end us (map out c.args.needs.now) c.args.start c.loop-done.marked.items c.loop-done.queue.items c.loop-done.done c.requires.needs lt s
    (omega (arith, c.loop-done-test.false)) chain

pub returns-then-is_empty-clause-no : goal.returns-then-is_empty-clause-no
returns-then-is_empty-clause-no c =
    let us = views c.args.units.now in
    let out = λ (list : Vec ℕ Global). list.items in
    let start = c.args.start in
    let lt : start < length us = omega (arith, c.requires.inside, length-map c.args.units.now view_unit) in
    let empty : c.index-needs-start.result.items ≡ [] = grind (arith, common_steps) in
    let list = list_is out c.args.needs.now start c.index-needs-start.result c.index-needs-start.result.items
    (omega (arith, lt, c.requires.needs.size, length-map c.args.needs.now out)) c.index-needs-start.is refl in
    λ chain. absurd (no_cycle us (map out c.args.needs.now) start c.requires.needs lt (sym list ∙ empty) chain)
