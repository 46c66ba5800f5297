use Rattle.std.proofs.Common.{◌≡◌, ℕ, ◌+◌, ◌-◌, ◌<◌, ◌≤◌, ◌||◌, [], List, All, count_by, length, get_or, map, nat_eq, Bool, sym, subst, ap, ◌∙◌}
use Rattle.std.proofs.Common.{arith, Vec, Global}
use Rattle.std.specs.List.{position}
use Rattle.std.proofs.lemmas.List.{length-map, length_push, with_items_is}
use Rattle.std.proofs.lemmas.List.Elements.{All-weaker}
use Rattle.std.proofs.lemmas.List.Quantifiers.{position-Some}
use Rattle.unit_order.specs.Positions.{views, names_at}
use Rattle.unit_order.specs.Needs.{need_table, positions_from}
use Rattle.ml_trees.specs.View.{view_unit}
use Rattle.unit_order.specs.Turns.{is_free}
use Rattle.unit_order.specs.declared.taking.Waiting.{Waiting}
use Rattle.unit_order.proofs.Spread.{list_is}
use Rattle.unit_order.proofs.Taken.{waiting_of, sorted_apart}
use Rattle.unit_order.proofs.Table.{All-from_map, list_count, list_inside, list_short, names_of}
use Rattle.unit_order.proofs.Users.{users_inside, users_once}
use Rattle.unit_order.proofs.Turns.{Turns, turns_start, turns_more, turns_stop, turns_end, fresh_at}
use Rattle.unit_order.proofs.taking.take_ready.Goals as goal

pub user_lists-requires : goal.user_lists-requires
user_lists-requires c =
    let us = views c.args.units.now in
    let out = λ (list : Vec ℕ Global). list.items in
    let needs = c.args.needs.now in
    let many : length needs ≡ length us = sym (length-map needs out) ∙ ap length c.requires.needs ∙ list_count us in
    All-from_map (λ list. All (λ at. at < length needs) list) out [] needs
    (subst (All (All (λ at. at < length needs))) (sym c.requires.needs)
    (subst (λ n. All (All (λ at. at < n)) (map (positions_from 0) (need_table us))) (sym many) (list_inside us)))

pub start_waiting-requires : goal.start_waiting-requires
start_waiting-requires c =
    let us = views c.args.units.now in
    let out = λ (list : Vec ℕ Global). list.items in
    let short : All (λ (list : List ℕ). length list ≤ length us) (map out c.args.needs.now) =
    subst (All (λ (list : List ℕ). length list ≤ length us)) (sym c.requires.needs) (list_short us) in
    All-weaker (λ list. length list.items ≤ length us) (λ list. length list.items < 4294967296)
    (λ list h. omega (arith, h, c.requires.count, length-map c.args.units.now view_unit)) c.args.needs.now
    (All-from_map (λ (list : List ℕ). length list ≤ length us) out [] c.args.needs.now short)

pub loop-turn-init : goal.loop-turn-init
loop-turn-init c =
    let us = views c.args.units.now in
    let out = λ (list : Vec ℕ Global). list.items in
    record {
      turns = subst (λ order. Turns us order c.in_ok-waiting.waiting.items) (sym c.new-order.ensures.items)
          (turns_start us out c.args.needs.now c.in_ok-waiting.waiting.items c.requires.needs c.in_ok-waiting.ensures);
      many = ap length c.new-order.ensures.items;
      inside = omega arith;
      before = λ k d lt. absurd (omega (arith, lt));
    }

pub take_unit-from-requires-clause-users : goal.take_unit-from-requires-clause-users
take_unit-from-requires-clause-users c =
    let us = views c.args.units.now in
    let out = λ (list : Vec ℕ Global). list.items in
    let at = c.in-Some.at in
    let order = c.loop-turn.order.items in
    let waiting = c.loop-turn.waiting.items in
    let t = c.loop-turn.invariant.turns in
    let fresh = fresh_at us order waiting at t (ap (position is_free) (sym c.deref.ensures.value) ∙ sym c.next_free.ensures ∙ c.in-Some.is) in
    let many : length (map out c.args.needs.now) ≡ length us = ap length c.requires.needs ∙ list_count us in
    let all : length (map out c.args.needs.now) ≡ length c.deref_mut.result.now =
    many ∙ sym (ap length (c.deref_mut.ensures.value ∙ t.waits) ∙ length-map us (waiting_of (names_at us order) us)) in
    let list = list_is out c.in_ok-users.users.items at c.index.result.now c.deref-in-loop-turn.result.now
    (omega (arith, fresh.0, many, length-map c.args.needs.now out, c.in_ok-users.ensures.size)) c.index.ensures
    c.deref-in-loop-turn.ensures.value in
    subst (All (λ user. user < length c.deref_mut.result.now)) (sym list)
    (subst (λ n. All (λ user. user < n) (get_or (map out c.in_ok-users.users.items) at [])) all
    (users_inside (map out c.in_ok-users.users.items) (map out c.args.needs.now) at c.in_ok-users.ensures.turned))

pub take_unit-from-requires-clause-before : goal.take_unit-from-requires-clause-before
take_unit-from-requires-clause-before c =
    let free = ap (position is_free) (sym c.deref.ensures.value) ∙ sym c.next_free.ensures ∙ c.in-Some.is in
    λ k d lt. ap (λ ws. is_free (get_or ws k d)) c.deref_mut.ensures.value
    ∙ (position-Some is_free c.loop-turn.waiting.items c.in-Some.at d free).2 k lt

pub loop-turn-preserved : goal.loop-turn-preserved
loop-turn-preserved c =
    let us = views c.args.units.now in
    let out = λ (list : Vec ℕ Global). list.items in
    let at = c.in-Some.at in
    let order = c.loop-turn.order.items in
    let waiting = c.loop-turn.waiting in
    let later = c.take_unit-from.new.waiting in
    let users = map out c.in_ok-users.users.items in
    let t = c.loop-turn.invariant.turns in
    let free = ap (position is_free) (sym c.deref.ensures.value) ∙ sym c.next_free.ensures ∙ c.in-Some.is in
    let fresh = fresh_at us order waiting.items at t free in
    let many : length (map out c.args.needs.now) ≡ length us = ap length c.requires.needs ∙ list_count us in
    let list = list_is out c.in_ok-users.users.items at c.index.result.now c.deref-in-loop-turn.result.now
    (omega (arith, fresh.0, many, length-map c.args.needs.now out, c.in_ok-users.ensures.size)) c.index.ensures
    c.deref-in-loop-turn.ensures.value in
    let all : length waiting.items ≡ length us = ap length t.waits ∙ length-map us (waiting_of (names_at us order) us) in
    let as_it_is = λ (n : ℕ) (b : Bool). let w : Waiting = record { missing = n; taken = b } in w in
    let size : length later ≡ length waiting.items = c.take_unit-from.ensures.size ∙ ap length c.deref_mut.ensures.value in
    let more = turns_more us order waiting.items later at (sorted_apart us (rw names_of c.requires.sorted)) t free size
    (λ k d lt. c.take_unit-from.ensures.each k d (rw c.deref_mut.ensures.value lt)
    ∙ ap (λ ws. as_it_is ((get_or ws k d).missing - count_by (nat_eq k) c.deref-in-loop-turn.result.now) ((get_or ws k d).taken || nat_eq k at))
    c.deref_mut.ensures.value
    ∙ ap (λ n. as_it_is ((get_or waiting.items k d).missing - n) ((get_or waiting.items k d).taken || nat_eq k at))
    (ap (count_by (nat_eq k)) list ∙ users_once us users (map out c.args.needs.now) k at c.in_ok-users.ensures.turned c.requires.needs
    (omega (arith, lt, all)) fresh.0)) in
    rw (with_items_is waiting later (size ∙ sym waiting.ok.0)) (record {
      turns = rw c.in_ok-push.ensures.items more;
      many = ap length c.in_ok-push.ensures.items ∙ length_push order at ∙ ap (λ n. n + 1) c.loop-turn.invariant.many;
      inside = c.take_unit-from.ensures.inside;
      before = c.take_unit-from.ensures.before;
    })

pub returns-in_default-clause-order : goal.returns-in_default-clause-order
returns-in_default-clause-order c =
    let us = views c.args.units.now in
    let free = ap (position is_free) (sym c.deref.ensures.value) ∙ sym c.next_free.ensures ∙ c.in_default.is in
    (turns_stop us c.loop-turn.order.items c.loop-turn.waiting.items c.loop-turn.invariant.turns free).0

pub returns-in_default-clause-stopped : goal.returns-in_default-clause-stopped
returns-in_default-clause-stopped c =
    let us = views c.args.units.now in
    let free = ap (position is_free) (sym c.deref.ensures.value) ∙ sym c.next_free.ensures ∙ c.in_default.is in
    λ _. (turns_stop us c.loop-turn.order.items c.loop-turn.waiting.items c.loop-turn.invariant.turns free).1

pub returns-in_default-clause-inside : goal.returns-in_default-clause-inside
returns-in_default-clause-inside c = rw (← length-map c.args.units.now view_unit) c.loop-turn.invariant.turns.inside

pub returns-in_default-clause-left : goal.returns-in_default-clause-left
returns-in_default-clause-left c = c.loop-turn.invariant.turns.left ∙ length-map c.args.units.now view_unit

pub returns-clause-order : goal.returns-clause-order
returns-clause-order c =
    let us = views c.args.units.now in
    turns_end us c.loop-turn.order.items c.loop-turn.waiting.items c.loop-turn.invariant.turns
    (omega (arith, c.loop-turn.invariant.many, c.loop-turn-test.false, length-map c.args.units.now view_unit))

pub returns-clause-stopped : goal.returns-clause-stopped
returns-clause-stopped c = λ lt. absurd (omega (arith, lt, c.loop-turn.invariant.many, c.loop-turn-test.false))

pub returns-clause-inside : goal.returns-clause-inside
returns-clause-inside c = rw (← length-map c.args.units.now view_unit) c.loop-turn.invariant.turns.inside

pub returns-clause-left : goal.returns-clause-left
returns-clause-left c = c.loop-turn.invariant.turns.left ∙ length-map c.args.units.now view_unit
