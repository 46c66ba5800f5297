use Rattle.std.proofs.Common.{◌∙◌, arith}
use Rattle.tree_io.proofs.Writing.{written_more, room_more, stopped_at, on_err, no_more}
use Rattle.tree_io.proofs.writes.write_all.Goals as goal

pub returns-in_err-write-clause-stopped : goal.returns-in_err-write-clause-stopped
returns-in_err-write-clause-stopped g c =
    on_err c.from_residual.result
    _ (stopped_at c.args.writes.now c.loop-file.file-index c.file-item.result (g.T.Tree.content c.args.tree.now)
    (g.T.Tree.content c.loop-file.tree) (g.T.Tree.content c.write.new.self)
    c.as_str.result.now (omega arith) c.file-item.is c.loop-file.invariant.written c.as_str.ensures c.in_err-write.ensures.spoiled)

pub loop-file-preserved : goal.loop-file-preserved
loop-file-preserved g c = record {
  written = written_more c.args.writes.now c.loop-file.file-index c.file-item.result (g.T.Tree.content c.args.tree.now)
      (g.T.Tree.content c.loop-file.tree) (g.T.Tree.content c.write.new.self)
      c.as_str.result.now c.as_slice.result.now (omega arith) c.file-item.is c.loop-file.invariant.written c.as_str.ensures c.as_slice.ensures
      c.in_ok-write.ensures.written;
  room = room_more (g.T.Tree.room_for c.loop-file.tree) (g.T.Tree.room_for c.write.new.self) c.args.writes.now c.loop-file.file-index
      c.file-item.result (omega arith) c.write.ensures.room c.loop-file.invariant.room;
  count = c.in_ok-write.ensures.cause.ok ∙ c.loop-file.invariant.count;
  kept = λ name. omega (arith, c.loop-file.invariant.kept name, c.write.ensures.room name);
  none = no_more c.args.writes.now c.loop-file.file-index _ (omega arith);
  steady = λ s. (c.write.ensures.steady (c.loop-file.invariant.steady s)).0;
}
