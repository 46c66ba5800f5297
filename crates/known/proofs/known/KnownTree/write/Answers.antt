use Rattle.std.proofs.Common.{arith}
use Rattle.known.specs.Kept.{kept_files}
use Rattle.known.proofs.Fronts.{named_write, writes_fronts}
use Rattle.known.proofs.known.KnownTree.write.Goals as goal

pub invariant_of-self : goal.invariant_of-self
invariant_of-self g c =
    let was = g.T.Tree.content c.args.self.now.tree in
    let now = g.T.Tree.content c.write.new.self in
    record {
      names = λ held e name.
          rw c.put.ensures.files
          (named_write was now (kept_files c.args.self.now.kept) c.args.name.now c.args.bytes.now c.args.bytes.now c.in-Ok.ensures.written
          c.args.self.now.names held e name);
      fronts = λ none.
          writes_fronts was now c.args.self.now.kept c.put.new.self c.args.name.now c.args.bytes.now c.in-Ok.ensures.written c.put.ensures.files
          c.put.ensures.others (c.args.self.now.fronts none);
    }

pub invariant_of-self-in-Err : goal.invariant_of-self-in-Err
invariant_of-self-in-Err g c =
    let was = g.T.Tree.content c.args.self.now.tree in
    let now = g.T.Tree.content c.write.new.self in
    record {
      names = λ held e name.
          rw c.put-in-Err.ensures.files
          (named_write was now (kept_files c.args.self.now.kept) c.args.name.now _ c.in-Err.ensures.spoiled.0 c.in-Err.ensures.spoiled.1
          c.args.self.now.names held e name);
      fronts = λ none. absurd (omega (arith, c.saturating_add-self.ensures, none));
    }
