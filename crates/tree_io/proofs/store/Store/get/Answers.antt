use Rattle.std.proofs.Common.{ap, sym, ◌∙◌, cond, length, arith, Some, None}
use Rattle.tree_io.proofs.Slots.{spot_of, absent_of, spot_within, get_spot, get_absent, if_none}
use Rattle.tree_io.proofs.store.Store.get.Goals as goal

pub returns-in_err-at-clause-missing : goal.returns-in_err-at-clause-missing
returns-in_err-at-clause-missing c =
    let absent = absent_of c.args.name.now c.args.self.now.slots.items c.deref.result.now c.position.result c.deref.ensures.value c.position.ensures
    c.in_err-at.was in
    if_none c.from_residual.result (get_absent c.args.name.now c.args.self.now.slots.items absent)

pub index-slot-requires : goal.index-slot-requires
index-slot-requires c =
    let spot = spot_of c.args.name.now c.args.self.now.slots.items c.deref.result.now c.position.result c.in_ok-at.at c.deref.ensures.value
    c.position.ensures c.in_ok-at.was in
    omega (arith, spot_within c.args.name.now c.args.self.now.slots.items c.in_ok-at.at spot, c.deref.ensures.len, ap length c.deref.ensures.value)

pub returns-then-slot-clause-found : goal.returns-then-slot-clause-found
returns-then-slot-clause-found c =
    let spot = spot_of c.args.name.now c.args.self.now.slots.items c.deref.result.now c.position.result c.in_ok-at.at c.deref.ensures.value
    c.position.ensures c.in_ok-at.was in
    get_spot c.args.name.now c.args.self.now.slots.items c.in_ok-at.at c.index-slot.result.now c.args.self.now.distinct spot
    ∙ ap (λ slot. cond slot.there (Some slot.bytes.items) None) (sym c.index-slot.ensures)
    ∙ ap (λ b. cond b (Some c.index-slot.result.now.bytes.items) None) c.if-slot.true
    ∙ ap (λ bytes. Some bytes) (sym c.deref-then-slot.ensures.value)

pub returns-else-slot-clause-missing : goal.returns-else-slot-clause-missing
returns-else-slot-clause-missing c =
    let spot = spot_of c.args.name.now c.args.self.now.slots.items c.deref.result.now c.position.result c.in_ok-at.at c.deref.ensures.value
    c.position.ensures c.in_ok-at.was in
    get_spot c.args.name.now c.args.self.now.slots.items c.in_ok-at.at c.index-slot.result.now c.args.self.now.distinct spot
    ∙ ap (λ slot. cond slot.there (Some slot.bytes.items) None) (sym c.index-slot.ensures)
    ∙ ap (λ b. cond b (Some c.index-slot.result.now.bytes.items) None) c.if-slot.false
