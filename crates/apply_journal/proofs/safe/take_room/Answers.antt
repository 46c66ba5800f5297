use Rattle.std.proofs.Common.{◌≤◌, ℕ, List, [], ◌∷◌, length, subst, arith}
use Rattle.rotor_base.specs.declared.source.SourceFile.{SourceFile}
use Rattle.tree_io.specs.Writes.{HasRoom}
use Rattle.tree_io.proofs.Writing.{keeps_room}
use Rattle.apply_journal.specs.Plan.{file_of, plan_text}
use Rattle.apply_journal.specs.Recovered.{plan_name, gate_name}
use Rattle.apply_journal.proofs.Writings.{ok_map, room_join}
use Rattle.apply_journal.proofs.safe.take_room.Goals as goal

pub returns-clause-room : goal.returns-clause-room
returns-clause-room g c =
    let files = c.args.plan.now in
    let one = g.T.Tree.room_for c.take_room.new.tree in
    let two = g.T.Tree.room_for c.room.new.self in
    let last = g.T.Tree.room_for c.room-2.new.self in
    let made : length c.text.result.now ≤ two plan_name = omega (arith, c.in_ok-room.ensures.made, c.text.ensures.short) in
    let here : length c.text.result.now ≤ last plan_name = omega (arith, made, c.room-2.ensures.room plan_name) in
    let plan : length (plan_text files) ≤ last plan_name = subst (λ (bs : List ℕ). length bs ≤ last plan_name) c.text.ensures.text here in
    let some : 1 ≤ last plan_name = omega (arith, here, c.text.ensures.some) in
    let rest : HasRoom last files =
    keeps_room two last files c.room-2.ensures.room
    (keeps_room one two files c.room.ensures.room
    (subst (λ (fs : List SourceFile). HasRoom one fs) c.files.ensures.files c.in_ok-take_room.ensures.room)) in
    ok_map c.room-2.result _ _ (λ gate.
    ((plan, some), ((gate, omega (arith, gate)), room_join last files (file_of gate_name [] ∷ []) rest ((omega arith, omega (arith, gate)), tt))))
    c.room-2.ensures.made
