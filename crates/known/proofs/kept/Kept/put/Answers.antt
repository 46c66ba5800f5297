use Rattle.std.proofs.Common.{IsNone, refl, sym, subst, ◌∙◌}
use Rattle.std.specs.FinMap.{get}
use Rattle.tree_io.specs.Outside.{FileMap}
use Rattle.known.proofs.Fronts.{has_apart}
use Rattle.known.proofs.Keeping.{seen_set, made_set, seen_room_set, succeeds, room_made, some_is}
use Rattle.known.proofs.kept.Kept.put.Goals as goal

pub write-requires-clause-placed : goal.write-requires-clause-placed
write-requires-clause-placed c = λ files e none.
    room_made c.args.self.now c.args.name.now (sym c.has.ensures ∙ c.if-has.false) c.requires.placed
    (subst (λ (held : FileMap). IsNone (get held c.args.name.now)) (sym (some_is e)) none)

pub returns-then-has-clause-files : goal.returns-then-has-clause-files
returns-then-has-clause-files c =
    seen_set c.args.self.now (record { seen = c.fill.new.self; made = c.args.self.now.made }) c.args.name.now c.args.bytes.now c.fill.ensures.files
    refl

pub returns-then-has-clause-room : goal.returns-then-has-clause-room
returns-then-has-clause-room c =
    seen_room_set c.args.self.now (record { seen = c.fill.new.self; made = c.args.self.now.made }) c.args.name.now c.args.bytes.now
    (sym c.has.ensures ∙ c.if-has.true) c.fill.ensures.files c.fill.ensures.room refl

pub returns-else-has-clause-files : goal.returns-else-has-clause-files
returns-else-has-clause-files c =
    made_set c.args.self.now (record { seen = c.args.self.now.seen; made = c.write.new.self }) c.args.name.now c.args.bytes.now refl
    (some_is (succeeds c.write.result c.write.ensures.written (c.write.ensures.steady tt).1)) (sym c.has.ensures ∙ c.if-has.false)

pub returns-then-has-clause-others : goal.returns-then-has-clause-others
returns-then-has-clause-others c =
    has_apart c.args.self.now.seen c.fill.new.self c.args.name.now c.args.bytes.now c.fill.ensures.files c.fill.ensures.others
