use Rattle.std.proofs.Common.{[], ◌∷◌, arith}
use Rattle.apply_journal.specs.Plan.{file_of}
use Rattle.apply_journal.specs.Recovered.{gate_name}
use Rattle.apply_journal.proofs.Writings.{on_err, ok_map, err_map, room_front, room_back, written_one, written_on, stopped_one, stopped_front}
use Rattle.apply_journal.proofs.Writings.{stopped_back}
use Rattle.apply_journal.proofs.safe.write_and_close.Goals as goal

pub write_all-requires : goal.write_all-requires
write_all-requires g c = room_front (g.T.Tree.room_for c.args.tree.now) c.args.files.now (file_of gate_name [] ∷ []) c.requires

pub returns-in_err-write_all-clause-stopped : goal.returns-in_err-write_all-clause-stopped
returns-in_err-write_all-clause-stopped g c =
    on_err c.from_residual.result
    _ (stopped_front c.args.files.now (file_of gate_name [] ∷ []) (g.T.Tree.content c.args.tree.now) (g.T.Tree.content c.write_all.new.tree)
    c.in_err-write_all.ensures.stopped)

pub write-requires-clause-placed : goal.write-requires-clause-placed
write-requires-clause-placed g c = λ held e none.
    let room = (room_back (g.T.Tree.room_for c.args.tree.now) c.args.files.now (file_of gate_name [] ∷ []) c.requires).0.1 in
    omega (arith, room, c.write_all.ensures.room gate_name)

pub returns-clause-written : goal.returns-clause-written
returns-clause-written g c =
    ok_map c.write.result _ _ (λ w. written_on c.args.files.now (file_of gate_name [] ∷ []) (g.T.Tree.content c.args.tree.now)
    (g.T.Tree.content c.write_all.new.tree) (g.T.Tree.content c.write.new.self)
    c.in_ok-write_all.ensures.written (written_one gate_name [] (g.T.Tree.content c.write_all.new.tree) (g.T.Tree.content c.write.new.self) w))
    c.write.ensures.written

pub returns-clause-stopped : goal.returns-clause-stopped
returns-clause-stopped g c =
    err_map c.write.result _ _ (λ s. stopped_back c.args.files.now (file_of gate_name [] ∷ []) (g.T.Tree.content c.args.tree.now)
    (g.T.Tree.content c.write_all.new.tree) (g.T.Tree.content c.write.new.self)
    c.in_ok-write_all.ensures.written (stopped_one gate_name [] (g.T.Tree.content c.write_all.new.tree) (g.T.Tree.content c.write.new.self) s))
    c.write.ensures.spoiled
