use Rattle.std.proofs.Common.{◌≤◌, refl, sym, ap, subst, ◌∙◌, length, arith, vec_capacity, OnOk}
use Rattle.std.specs.FinMap.{from_entries}
use Rattle.tree_io.specs.Slots.{are_distinct, files_in}
use Rattle.tree_io.proofs.Slots.{spot_of, absent_of, spot_within, spot_name, names_kept, files_kept, room_kept, room_made, distinct_tried}
use Rattle.tree_io.proofs.Slots.{files_kept_pushed, rooms_pushed, made_pushed, NoSpot}
use Rattle.tree_io.proofs.store.Store.room.Goals as goal

pub index_mut-requires : goal.index_mut-requires
index_mut-requires c =
    let spot = spot_of c.args.name.now c.args.self.now.slots.items c.deref.result.now c.position.result c.in-Some.at c.deref.ensures.value
    c.position.ensures c.in-Some.is in
    omega (arith, spot_within c.args.name.now c.args.self.now.slots.items c.in-Some.at spot, c.deref.ensures.len, ap length c.deref.ensures.value)

pub invariant_of-self : goal.invariant_of-self
invariant_of-self c =
    let name = c.reserve.ensures.name ∙ ap (λ slot. slot.name) c.index_mut.ensures.value in
    record {
      distinct = ap are_distinct (names_kept c.args.self.now.slots.items c.in-Some.at c.reserve.new.self c.index_mut.result.now name)
          ∙ c.args.self.now.distinct;
    }

pub invariant_of-self-in-None : goal.invariant_of-self-in-None
invariant_of-self-in-None c =
    let absent = absent_of c.args.name.now c.args.self.now.slots.items c.deref.result.now c.position.result c.deref.ensures.value c.position.ensures
    c.in-None.is in
    let is = c.from_string.ensures ∙ c.in_ok-from_str-in-None.ensures.ok in
    record {
      distinct = distinct_tried c.args.self.now.slots.items c.push.new.self.items _ _ c.push.ensures.items c.args.self.now.distinct
          (subst (λ n. NoSpot n c.args.self.now.slots.items) (sym is) absent);
    }

pub returns-in-Some-clause-made : goal.returns-in-Some-clause-made
returns-in-Some-clause-made c =
    let spot = spot_of c.args.name.now c.args.self.now.slots.items c.deref.result.now c.position.result c.in-Some.at c.deref.ensures.value
    c.position.ensures c.in-Some.is in
    let items = c.args.self.now.slots.items in
    let name = c.reserve.ensures.name ∙ ap (λ slot. slot.name) c.index_mut.ensures.value
    ∙ spot_name c.args.name.now items c.in-Some.at c.index_mut.result.now spot in
    subst (λ n. OnOk c.reserve.result (c.args.len ≤ n)) (sym (room_made c.args.name.now items c.in-Some.at c.reserve.new.self spot name))
    c.reserve.ensures.made

pub returns-in-Some-clause-room : goal.returns-in-Some-clause-room
returns-in-Some-clause-room c = λ q.
    let name = c.reserve.ensures.name ∙ ap (λ slot. slot.name) c.index_mut.ensures.value in
    let more = subst (λ slot. vec_capacity slot.bytes ≤ vec_capacity c.reserve.new.self.bytes) c.index_mut.ensures.value c.reserve.ensures.room in
    room_kept q c.args.self.now.slots.items c.in-Some.at c.reserve.new.self c.index_mut.result.now name more

pub returns-in-Some-clause-content : goal.returns-in-Some-clause-content
returns-in-Some-clause-content c =
    let spot = spot_of c.args.name.now c.args.self.now.slots.items c.deref.result.now c.position.result c.in-Some.at c.deref.ensures.value
    c.position.ensures c.in-Some.is in
    let name = c.reserve.ensures.name ∙ ap (λ slot. slot.name) c.index_mut.ensures.value in
    let there = c.reserve.ensures.there ∙ ap (λ slot. slot.there) c.index_mut.ensures.value in
    let bytes = c.reserve.ensures.bytes ∙ ap (λ slot. slot.bytes.items) c.index_mut.ensures.value in
    ap (λ es. from_entries es)
    (files_kept c.args.name.now c.args.self.now.slots.items c.in-Some.at c.reserve.new.self c.index_mut.result.now spot name there bytes)

pub returns-in_ok-push-in-None-clause-made : goal.returns-in_ok-push-in-None-clause-made
returns-in_ok-push-in-None-clause-made c =
    let absent = absent_of c.args.name.now c.args.self.now.slots.items c.deref.result.now c.position.result c.deref.ensures.value c.position.ensures
    c.in-None.is in
    let is = c.from_string.ensures ∙ c.in_ok-from_str-in-None.ensures.ok in
    made_pushed c.args.name.now c.args.self.now.slots.items c.push.new.self.items _ c.args.len c.in_ok-push-in-None.ensures.items is absent
    c.in_ok-with_capacity-in-None.ensures.exact

pub returns-in_ok-push-in-None-clause-room : goal.returns-in_ok-push-in-None-clause-room
returns-in_ok-push-in-None-clause-room c = rooms_pushed c.args.self.now.slots.items c.push.new.self.items _ c.in_ok-push-in-None.ensures.items

pub returns-in_ok-push-in-None-clause-content : goal.returns-in_ok-push-in-None-clause-content
returns-in_ok-push-in-None-clause-content c =
    ap (λ es. from_entries es) (ap files_in c.in_ok-push-in-None.ensures.items ∙ files_kept_pushed c.args.self.now.slots.items _ refl)
