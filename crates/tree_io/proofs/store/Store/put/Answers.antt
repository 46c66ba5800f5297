use Rattle.std.proofs.Common.{◌≤◌, ap, subst, ◌∙◌, length, arith, vec_capacity}
use Rattle.tree_io.specs.Slots.{are_distinct}
use Rattle.tree_io.proofs.Slots.{spot_of, has_spot, spot_within, spot_name, room_at, names_kept, files_filled, room_kept}
use Rattle.tree_io.proofs.store.Store.put.Goals as goal

pub unwrap-at-requires : goal.unwrap-at-requires
unwrap-at-requires c = has_spot c.args.name.now c.args.self.now.slots.items c.deref.result.now c.position.result c.deref.ensures.value
    c.position.ensures c.requires.placed

pub index_mut-requires : goal.index_mut-requires
index_mut-requires c =
    let spot = spot_of c.args.name.now c.args.self.now.slots.items c.deref.result.now c.position.result c.unwrap-at.result c.deref.ensures.value
    c.position.ensures c.unwrap-at.ensures in
    omega (
      arith,
      spot_within c.args.name.now c.args.self.now.slots.items c.unwrap-at.result spot,
      c.deref.ensures.len,
      ap length c.deref.ensures.value,
    )

pub fill-requires : goal.fill-requires
fill-requires c =
    let spot = spot_of c.args.name.now c.args.self.now.slots.items c.deref.result.now c.position.result c.unwrap-at.result c.deref.ensures.value
    c.position.ensures c.unwrap-at.ensures in
    let room = room_at c.args.name.now c.args.self.now.slots.items c.unwrap-at.result c.index_mut.result.now spot in
    let same = ap (λ slot. vec_capacity slot.bytes) c.index_mut.ensures.value in
    omega (arith, c.requires.fits, room, same)

pub invariant_of-self : goal.invariant_of-self
invariant_of-self c =
    let name = c.fill.ensures.name ∙ ap (λ slot. slot.name) c.index_mut.ensures.value in
    record {
      distinct = ap are_distinct (names_kept c.args.self.now.slots.items c.unwrap-at.result c.fill.new.self c.index_mut.result.now name)
          ∙ c.args.self.now.distinct;
    }

pub returns-clause-content : goal.returns-clause-content
returns-clause-content c =
    let spot = spot_of c.args.name.now c.args.self.now.slots.items c.deref.result.now c.position.result c.unwrap-at.result c.deref.ensures.value
    c.position.ensures c.unwrap-at.ensures in
    let items = c.args.self.now.slots.items in
    let name = c.fill.ensures.name ∙ ap (λ slot. slot.name) c.index_mut.ensures.value
    ∙ spot_name c.args.name.now items c.unwrap-at.result c.index_mut.result.now spot in
    files_filled c.args.name.now c.args.bytes.now items c.unwrap-at.result c.fill.new.self spot name c.fill.ensures.there c.fill.ensures.bytes

pub returns-clause-room : goal.returns-clause-room
returns-clause-room c = λ q.
    let name = c.fill.ensures.name ∙ ap (λ slot. slot.name) c.index_mut.ensures.value in
    let more = subst (λ slot. vec_capacity slot.bytes ≤ vec_capacity c.fill.new.self.bytes) c.index_mut.ensures.value c.fill.ensures.room in
    room_kept q c.args.self.now.slots.items c.unwrap-at.result c.fill.new.self c.index_mut.result.now name more
