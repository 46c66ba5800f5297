use Rattle.std.proofs.Common.{[], ◌∷◌, List, ℕ, subst, sym}
use Rattle.rotor_base.specs.declared.source.SourceFile.{SourceFile}
use Rattle.tree_io.specs.Outside.{Writes}
use Rattle.tree_io.specs.Writes.{HasRoom, Written, StoppedWriting}
use Rattle.tree_io.proofs.Writing.{keeps_room}
use Rattle.apply_journal.specs.Plan.{file_of, plan_text}
use Rattle.apply_journal.specs.Recovered.{plan_name, gate_name, open_bytes, plan_writes}
use Rattle.apply_journal.proofs.Writings.{on_err, ok_map, err_map, written_one, written_on, stopped_one, stopped_front, stopped_back}
use Rattle.apply_journal.proofs.safe.safe_apply.Goals as goal

pub returns-in_err-write-2-clause-stopped : goal.returns-in_err-write-2-clause-stopped
returns-in_err-write-2-clause-stopped g c =
    let files = c.args.plan.now in
    let before = g.T.Tree.content c.args.tree.now in
    let mid = g.T.Tree.content c.write.new.self in
    let now = g.T.Tree.content c.write-2.new.self in
    let first : Written (file_of plan_name (plan_text files) ∷ []) before mid =
    written_one plan_name (plan_text files) before mid
    (subst (λ (bs : List ℕ). Writes plan_name bs before mid) c.text.ensures.text c.in_ok-write.ensures.written) in
    on_err c.from_residual-in_err-write-2.result
    _ (stopped_back (file_of plan_name (plan_text files) ∷ []) (file_of gate_name open_bytes ∷ plan_writes files) before mid now first
    (stopped_front (file_of gate_name open_bytes ∷ []) (plan_writes files) mid now
    (stopped_one gate_name open_bytes mid now c.in_err-write-2.ensures.spoiled)))

pub write_and_close-requires : goal.write_and_close-requires
write_and_close-requires g c =
    subst (λ (fs : List SourceFile). HasRoom (g.T.Tree.room_for c.write-2.new.self) (plan_writes fs)) (sym c.files.ensures.files)
    (keeps_room (g.T.Tree.room_for c.write.new.self) (g.T.Tree.room_for c.write-2.new.self) (plan_writes c.args.plan.now) c.write-2.ensures.room
    (keeps_room (g.T.Tree.room_for c.args.tree.now) (g.T.Tree.room_for c.write.new.self) (plan_writes c.args.plan.now) c.write.ensures.room
    c.requires.1.1))

pub returns-clause-written : goal.returns-clause-written
returns-clause-written g c =
    let files = c.args.plan.now in
    let before = g.T.Tree.content c.args.tree.now in
    let mid = g.T.Tree.content c.write.new.self in
    let opened = g.T.Tree.content c.write-2.new.self in
    let now = g.T.Tree.content c.write_and_close.new.tree in
    let first : Written (file_of plan_name (plan_text files) ∷ []) before mid =
    written_one plan_name (plan_text files) before mid
    (subst (λ (bs : List ℕ). Writes plan_name bs before mid) c.text.ensures.text c.in_ok-write.ensures.written) in
    let second : Written (file_of gate_name open_bytes ∷ []) mid opened =
    written_one gate_name open_bytes mid opened c.in_ok-write-2.ensures.written in
    ok_map c.write_and_close.result
    _ _ (λ w. written_on (file_of plan_name (plan_text files) ∷ []) (file_of gate_name open_bytes ∷ plan_writes files) before mid now first
    (written_on (file_of gate_name open_bytes ∷ []) (plan_writes files) mid opened now second
    (subst (λ (fs : List SourceFile). Written (plan_writes fs) opened now) c.files.ensures.files w))) c.write_and_close.ensures.written

pub returns-clause-stopped : goal.returns-clause-stopped
returns-clause-stopped g c =
    let files = c.args.plan.now in
    let before = g.T.Tree.content c.args.tree.now in
    let mid = g.T.Tree.content c.write.new.self in
    let opened = g.T.Tree.content c.write-2.new.self in
    let now = g.T.Tree.content c.write_and_close.new.tree in
    let first : Written (file_of plan_name (plan_text files) ∷ []) before mid =
    written_one plan_name (plan_text files) before mid
    (subst (λ (bs : List ℕ). Writes plan_name bs before mid) c.text.ensures.text c.in_ok-write.ensures.written) in
    let second : Written (file_of gate_name open_bytes ∷ []) mid opened =
    written_one gate_name open_bytes mid opened c.in_ok-write-2.ensures.written in
    err_map c.write_and_close.result
    _ _ (λ s. stopped_back (file_of plan_name (plan_text files) ∷ []) (file_of gate_name open_bytes ∷ plan_writes files) before mid now first
    (stopped_back (file_of gate_name open_bytes ∷ []) (plan_writes files) mid opened now second
    (subst (λ (fs : List SourceFile). StoppedWriting (plan_writes fs) opened now) c.files.ensures.files s))) c.write_and_close.ensures.stopped
